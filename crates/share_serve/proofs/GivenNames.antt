-- Listings of what is granted.
use Rattle.std.proofs.Common.{◌≡◌, ℕ, List, [], ◌∷◌, Bool, true, false, cond, ◌&&◌, ◌||◌, map, filter, Option, Some, None, Ok, IfSome, refl, sym, ap, ◌∙◌, bytes_eq}
use Rattle.std.specs.List.{list_any}
use Rattle.std.specs.Ordering.{eq_by_cmp}
use Rattle.std.specs.FinMap as maps
use Rattle.std.specs.FinMap.Entries.{find}
use Rattle.case_table.specs.declared.refuse.Refusal.TheVariants.{NotFound, TokenInvalid}
use Rattle.page_token.specs.Cursors.{cursor_of}
use Rattle.page_token.specs.Payload.{kind_field}
use Rattle.page_token.specs.declared.cursor.Cursor.TheVariants as cursor
use Rattle.page_token.specs.declared.cursor.ListKind.TheVariants as kind
use Rattle.share_book.specs.History.{edits}
use Rattle.share_book.specs.Looks.{names_in, share_of, table_of}
use Rattle.share_book.specs.NamesView.{NamesView}
use Rattle.share_book.specs.declared.entry.Entry.{Entry}
use Rattle.share_catalog.specs.Catalogue.{grant_edition}
use Rattle.share_catalog.specs.TableNames.{parts_of, texts_cmp}
use Rattle.share_catalog.specs.Views.{Spot, grants_of, tables_of}
use Rattle.share_catalog.specs.declared.credential.Credential.{Credential}
use Rattle.share_catalog.specs.declared.table_name.TableName.{TableName}
use Rattle.share_catalog.proofs.KeyTests.{bytes_refl}
use Rattle.share_catalog.proofs.ListingLemmas.{same_texts, tie_of}
use Rattle.share_catalog.proofs.ViewLemmas.{grants_are_shown, tables_are_shown}
use Rattle.share_request.specs.declared.asked.What.{What}
use Rattle.share_request.specs.declared.asked.What.TheVariants as what
use Rattle.share_reply.specs.Answer.{Answer, NamesPage, names, of, one_share}
use Rattle.share_reply.specs.Bodies.{reply_of}
use Rattle.share_reply.specs.Lists.{Listing, has_schema, has_share, is_same_listing, is_there, list_cursor, listing, names_by, names_from, names_page, names_with}
use Rattle.share_reply.specs.Replies.{answered_at}
use Rattle.share_serve.specs.Entitled.{Asking, IsGiven, IsGranted, IsListed, NamesAreGiven, Shares, request_for}
use Rattle.share_serve.specs.Responses.{json_response, response_of}
use Rattle.share_serve.proofs.Asked.{answered_is, grant_is, passes, shared_is, spot_at, view_at}

-- ---- what is in a map is listed

same_key : (q k : List (List ℕ)) → eq_by_cmp texts_cmp q k ≡ true → q ≡ k
same_key q k e = same_texts q k (tie_of (texts_cmp q k) e)

-- an entry of that key passes the tests
module _ {V X : Type 0} (q : List (List ℕ)) (name : List (List ℕ) × V → X) (p r : X → Bool) (passes_p : (e : List (List ℕ) × V) → q ≡ e.0 → p (name e) ≡ true) (passes_r : (e : List (List ℕ) × V) → q ≡ e.0 → r (name e) ≡ true) where
  kept_first : (b : Bool) (x : X) (xs : List X) → b ≡ true → r x ≡ true → list_any r (cond b (x ∷ filter p xs) (filter p xs)) ≡ true
  kept_first b x xs e f = ap (λ (c : Bool). list_any r (cond c (x ∷ filter p xs) (filter p xs))) e ∙ ap (λ (c : Bool). c || list_any r (filter p xs)) f

  any_true : (b : Bool) → (b || true) ≡ true
  any_true true = refl
  any_true false = refl

  kept_later : (b : Bool) (x : X) (xs : List X) → list_any r (filter p xs) ≡ true → list_any r (cond b (x ∷ filter p xs) (filter p xs)) ≡ true
  kept_later true x xs e = ap (λ (c : Bool). r x || c) e ∙ any_true (r x)
  kept_later false x xs e = e

  pub any_kept : (es : List (List (List ℕ) × V)) (v : V) → find texts_cmp q es ≡ Some v → list_any r (filter p (map name es)) ≡ true
  any_kept [] v e = absurd cc
  any_kept (x ∷ es) v e =
      elim (eq_by_cmp texts_cmp q x.0) as (λ b. eq_by_cmp texts_cmp q x.0 ≡ b → cond b (Some x.1) (find texts_cmp q es) ≡ Some v → list_any r (filter p (map name (x ∷ es))) ≡ true) [
        | true ↦ λ is f. kept_first (p (name x)) (name x) (map name es) (passes_p x (same_key q x.0 is)) (passes_r x (same_key q x.0 is))
        | false ↦ λ is f. kept_later (p (name x)) (name x) (map name es) (any_kept es v f)
      ] refl e

module _ {V X : Type 0} (q : List (List ℕ)) (name : List (List ℕ) × V → X) (r : X → Bool) (passes_r : (e : List (List ℕ) × V) → q ≡ e.0 → r (name e) ≡ true) where
  later_true : (b c : Bool) → c ≡ true → (b || c) ≡ true
  later_true true c e = refl
  later_true false c e = e

  pub any_listed : (es : List (List (List ℕ) × V)) (v : V) → find texts_cmp q es ≡ Some v → list_any r (map name es) ≡ true
  any_listed [] v e = absurd cc
  any_listed (x ∷ es) v e =
      elim (eq_by_cmp texts_cmp q x.0) as (λ b. eq_by_cmp texts_cmp q x.0 ≡ b → cond b (Some x.1) (find texts_cmp q es) ≡ Some v → (r (name x) || list_any r (map name es)) ≡ true) [
        | true ↦ λ is f. ap (λ (c : Bool). c || list_any r (map name es)) (passes_r x (same_key q x.0 is))
        | false ↦ λ is f. later_true (r (name x)) (list_any r (map name es)) (any_listed es v f)
      ] refl e

-- ---- of the view

abbrev pub names_at : List Entry → List ℕ → Credential → NamesView
names_at point r c = names_in (view_at point r c)

pub share_listed : (point : List Entry) (r : List ℕ) (c : Credential) (share : List ℕ) → IsGranted point r share → has_share (names_at point r c) share ≡ true
share_listed point r c share is =
    any_listed (share ∷ []) (λ (e : List (List ℕ) × ℕ). share_of e.0) (bytes_eq share) (λ e same. ap (λ (k : List (List ℕ)). bytes_eq share (share_of k)) (sym same) ∙ bytes_refl share)
    (maps.entries (grants_of (edits point) r)) (grant_edition (edits point) r share)
    (sym (maps.get-entries (grants_of (edits point) r) (share ∷ [])) ∙ grants_are_shown (edits point) r share ∙ grant_is point r share is)

pub schema_listed : (point : List Entry) (r : List ℕ) (c : Credential) (t : TableName) → Shares point r t → has_schema (names_at point r c) t.share t.schema ≡ true
schema_listed point r c t is =
    any_kept (parts_of t) (λ (e : List (List ℕ) × Spot). table_of e.0) (λ u. bytes_eq u.share t.share) (λ u. bytes_eq u.schema t.schema)
    (λ e same. ap (λ (k : List (List ℕ)). bytes_eq (table_of k).share t.share) (sym same) ∙ bytes_refl t.share)
    (λ e same. ap (λ (k : List (List ℕ)). bytes_eq (table_of k).schema t.schema) (sym same) ∙ bytes_refl t.schema)
    (maps.entries (tables_of (edits point) r)) (spot_at point r t is)
    (sym (maps.get-entries (tables_of (edits point) r) (parts_of t)) ∙ tables_are_shown (edits point) r t ∙ shared_is point r t is)

-- ---- a page of names

same_listing : (r : List ℕ) (l : Listing) (after : List ℕ) → is_same_listing r l (list_cursor r l after) ≡ true
same_listing r l after = λ i. bytes_refl (kind_field l.kind) i && (bytes_refl r i && (bytes_refl l.share i && bytes_refl l.schema i))

abbrev pub HasPage : Asking → NamesView → Listing → Option (List ℕ) → Type 0
HasPage a seen l o = (p : NamesPage) × (names_with a.keys a.recipient seen l o ≡ Ok p)

pub page_by : (a : Asking) (seen : NamesView) (l : Listing) (o : Option (List ℕ)) → IfSome o (λ text. (after : List ℕ) × (cursor_of a.keys.token text ≡ Some (cursor.List (list_cursor a.recipient l after)))) → HasPage a seen l o
page_by a seen l None is = (names_from a.recipient seen l [], refl)
page_by a seen l (Some text) is = (
  names_from a.recipient seen l is.0,
  ap (names_by a.recipient seen l) is.1 ∙ passes (is_same_listing a.recipient l (list_cursor a.recipient l is.0)) TokenInvalid [] (Ok (names_from a.recipient seen l is.0)) (same_listing a.recipient l is.0),
)

page_of : (a : Asking) (seen : NamesView) (l : Listing) → is_there seen l.kind l.share l.schema ≡ true → IsListed a l → (p : NamesPage) × (names_page a.keys a.recipient seen l ≡ Ok p)
page_of a seen l there is =
    let p = page_by a seen l l.token is in (
      p.0,
      passes (is_there seen l.kind l.share l.schema) NotFound [] (names_with a.keys a.recipient seen l l.token) there ∙ p.1,
    )

abbrev pub seen_by : Asking → NamesView
seen_by a = names_at a.point a.recipient a.credential

names_given : (a : Asking) (w : What) (l : Listing) → answered_at a.keys a.point a.now (request_for a w) ≡ of names (names_page a.keys a.recipient (seen_by a) l) → is_there (seen_by a) l.kind l.share l.schema ≡ true → IsListed a l → IsGiven a w None
names_given a w l answered there is =
    let p = page_of a (seen_by a) l there is in
    let so : answered_at a.keys a.point a.now (request_for a w) ≡ names p.0 = answered ∙ ap (of names) p.1 in
    (json_response _, ap (λ (x : Answer). response_of (reply_of a.keys a.format x)) so, refl)

share_given : (a : Asking) (share : List ℕ) → IsGranted a.point a.recipient share → IsGiven a (what.GetShare share) None
share_given a share is =
    let so : answered_at a.keys a.point a.now (request_for a (what.GetShare share)) ≡ one_share share =
    answered_is a (what.GetShare share) ∙ ap (of one_share) (passes (has_share (seen_by a) share) NotFound [] (Ok share) (share_listed a.point a.recipient a.credential share is)) in
    (json_response _, ap (λ (x : Answer). response_of (reply_of a.keys a.format x)) so, refl)

pub names_are_given : NamesAreGiven
names_are_given = record {
  shares = λ a p is. names_given a (what.ListShares p) (listing kind.Shares [] [] p) (answered_is a (what.ListShares p)) refl is;
  share = share_given;
  schemas = λ a share p granted is. names_given a (what.ListSchemas share p) (listing kind.Schemas share [] p) (answered_is a (what.ListSchemas share p)) (share_listed a.point a.recipient a.credential share granted) is;
  tables = λ a t p shares is.
      names_given a (what.ListTables t.share t.schema p) (listing kind.Tables t.share t.schema p) (answered_is a (what.ListTables t.share t.schema p))
      (λ i. share_listed a.point a.recipient a.credential t.share shares.is_granted i && schema_listed a.point a.recipient a.credential t shares i) is;
  all_tables = λ a share p granted is. names_given a (what.ListAll share p) (listing kind.AllTables share [] p) (answered_is a (what.ListAll share p)) (share_listed a.point a.recipient a.credential share granted) is;
}
