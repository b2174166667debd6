-- Pages of a listing, one behind another.
use Rattle.std.proofs.Common.{◌≡◌, ℕ, inl, inr, List, [], ◌∷◌, ◌++◌, Option, Some, None, refl, sym, ap, ◌∙◌, subst, append_assoc, append-nil}
use Rattle.std.specs.Prelude.{IfSome, IsSome, ⊤}
use Rattle.bucket_text.specs.declared.listing.Listing.{Listing}
use Rattle.bucket_store.specs.declared.exchange.Response.{Response}
use Rattle.bucket_store.specs.declared.place.BucketPlace.{BucketPlace}
use Rattle.bucket_store.specs.Folders.{AsksPage, GetsPage, IsInOrder, ListsFront, Pages, segments_in, segments_of}
use Rattle.bucket_store.specs.Sides.{Side}

-- behind a page the listing goes on
abbrev pub GoesOn : List Listing → Option (List ℕ) → Type 0
GoesOn [] last = ⊤
GoesOn (p ∷ ps) last = IsSome last

pub page_behind :
    (place : BucketPlace) (front : List ℕ) (token : Option (List ℕ)) (pages : List Listing) (page : Listing) (last : Option (List ℕ)) (s t u : Side)
    → GoesOn pages last → Pages place front token pages last s t → GetsPage place front last page t u → Pages place front token (pages ++ page ∷ []) page.next s u
page_behind place front token [] page last s t u on came gets =
    (subst (λ x. GetsPage place front x page s u) came.0 (subst (λ x. GetsPage place front last page x u) came.1 gets), refl)
page_behind place front token (p ∷ []) page last s t u on came gets =
    (t, came.0, subst (λ x. IsSome x) came.1 on, (subst (λ x. GetsPage place front x page t u) came.1 gets, refl))
page_behind place front token (p ∷ q ∷ ps) page last s t u on came gets =
    (came.0, came.1, came.2, page_behind place front p.next (q ∷ ps) page last came.0 t u on came.3 gets)

pub segments_behind : (front : List ℕ) (pages : List Listing) (page : Listing) → segments_in front (pages ++ page ∷ []) ≡ segments_in front pages ++ segments_of front page.keys
segments_behind front [] page = append-nil (segments_of front page.keys)
segments_behind front (p ∷ ps) page =
    ap (λ x. segments_of front p.keys ++ x) (segments_behind front ps page)
    ∙ sym (append_assoc (segments_of front p.keys) (segments_in front ps) (segments_of front page.keys))

-- the pages that came so far, with their names
abbrev pub Reaches : BucketPlace → List ℕ → Option (List ℕ) → List (List ℕ) → Side → Side → Type 0
Reaches place front last names old new =
    (pages : List Listing) × Pages place front None pages last old new × GoesOn pages last × (names ≡ segments_in front pages)

pub nothing_yet : (place : BucketPlace) (front : List ℕ) (s : Side) → Reaches place front None [] s s
nothing_yet place front s = ([], (refl, refl), tt, refl)

goes_behind : (pages : List Listing) (page : Listing) (last : Option (List ℕ)) → IsSome last → GoesOn (pages ++ page ∷ []) last
goes_behind [] page last some = some
goes_behind (p ∷ ps) page last some = some

pub one_more :
    (place : BucketPlace) (front : List ℕ) (last : Option (List ℕ)) (names names_new : List (List ℕ)) (page : Listing) (s t u : Side)
    → names_new ≡ names ++ segments_of front page.keys → IsSome page.next
    → Reaches place front last names s t → GetsPage place front last page t u → Reaches place front page.next names_new s u
one_more place front last names names_new page s t u pushed some r gets = (
  r.0 ++ page ∷ [],
  page_behind place front None r.0 page last s t u r.2 r.1 gets,
  goes_behind r.0 page page.next some,
  pushed ∙ ap (λ x. x ++ segments_of front page.keys) r.3 ∙ sym (segments_behind front r.0 page),
)

-- all pages
all_pages :
    (place : BucketPlace) (front : List ℕ) (pages : List Listing) (page : Listing) (names : List (List ℕ)) (s u : Side)
    → Pages place front None (pages ++ page ∷ []) None s u → IsInOrder (segments_in front (pages ++ page ∷ [])) names
    → (first : Listing) × (others : List Listing) × Pages place front None (first ∷ others) None s u × IsInOrder (segments_in front (first ∷ others)) names
all_pages place front [] page names s u came is = (page, [], came, is)
all_pages place front (p ∷ ps) page names s u came is = (p, ps ++ page ∷ [], came, is)

all_came :
    (place : BucketPlace) (front : List ℕ) (last : Option (List ℕ)) (names names_new sorted : List (List ℕ)) (page : Listing) (s t u : Side)
    → names_new ≡ names ++ segments_of front page.keys → page.next ≡ None → IsInOrder names_new sorted
    → Reaches place front last names s t → GetsPage place front last page t u → ListsFront place front (Some sorted) s u
all_came place front last names names_new sorted page s t u pushed end is r gets =
    all_pages place front r.0 page sorted s u
    (subst (λ x. Pages place front None (r.0 ++ page ∷ []) x s u) end (page_behind place front None r.0 page last s t u r.2 r.1 gets))
    (subst (λ x. IsInOrder x sorted) (pushed ∙ ap (λ x. x ++ segments_of front page.keys) r.3 ∙ sym (segments_behind front r.0 page)) is)

-- some came, and memory was wanting
pub some_came : (place : BucketPlace) (front : List ℕ) (last : Option (List ℕ)) (names : List (List ℕ)) (s t : Side) → Reaches place front last names s t → ListsFront place front None s t
some_came place front last names s t r = (r.0, last, t, r.1, inl refl)

-- some came, and one more
pub more_came :
    (place : BucketPlace) (front : List ℕ) (last : Option (List ℕ)) (names : List (List ℕ)) (page : Listing) (s t u : Side)
    → Reaches place front last names s t → GetsPage place front last page t u → ListsFront place front None s u
more_came place front last names page s t u r gets =
    (r.0 ++ page ∷ [], page.next, u, page_behind place front None r.0 page last s t u r.2 r.1 gets, inl refl)

-- the last one came
pub end_came :
    (place : BucketPlace) (front : List ℕ) (last : Option (List ℕ)) (names names_new : List (List ℕ)) (sorted : Option (List (List ℕ))) (page : Listing) (s t u : Side)
    → names_new ≡ names ++ segments_of front page.keys → page.next ≡ None → IfSome sorted (λ l. IsInOrder names_new l)
    → Reaches place front last names s t → GetsPage place front last page t u → ListsFront place front sorted s u
end_came place front last names names_new (Some sorted) page s t u pushed end is r gets = all_came place front last names names_new sorted page s t u pushed end is r gets
end_came place front last names names_new None page s t u pushed end is r gets = more_came place front last names page s t u r gets

-- some came, and the next didn't
pub one_lost :
    (place : BucketPlace) (front : List ℕ) (last : Option (List ℕ)) (names : List (List ℕ)) (made : ℕ) (response : Option Response) (s t u : Side)
    → Reaches place front last names s t → AsksPage place front last made response t u → ListsFront place front None s u
one_lost place front last names made response s t u r asks = (r.0, last, t, r.1, inr (made, response, asks))
