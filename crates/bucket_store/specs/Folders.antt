-- A listing of a folder, page after page (Amazon S3 API Reference, "ListObjectsV2").
use Rattle.std.specs.Prelude.{◌≡◌, ℕ, ◌⊎◌, List, [], ◌∷◌, ◌++◌, Option, Some, None, IsSome, option_map, option_and_then, option_to_list, codes, if◌then◌else◌}
use Rattle.std.specs.List.{flat_map}
use Rattle.std.specs.List.Sorted.{IsPermutation, IsSorted}
use Rattle.std.specs.Ordering.{nat_cmp}
use Rattle.std.specs.Cmp.Lexicographic.{slice_cmp}
use Rattle.edge_core.specs.declared.store.Listed.{Listed}
use Rattle.edge_core.specs.declared.store.Listed.TheVariants as listed
use Rattle.edge_core.specs.Names.{is_one_segment}
use Rattle.edge_core.specs.Objects.{after_prefix}
use Rattle.bucket_text.specs.Listings.{listing_of}
use Rattle.bucket_text.specs.declared.listing.Listing.{Listing}
use Rattle.signed_call.specs.declared.call.Call.{Call}
use Rattle.signed_call.specs.declared.call.Call.TheVariants as call
use Rattle.bucket_store.specs.declared.exchange.Response.{Response}
use Rattle.bucket_store.specs.declared.looks.ListNext.TheVariants as next
use Rattle.bucket_store.specs.declared.place.BucketPlace.{BucketPlace}
use Rattle.bucket_store.specs.Looks.{list_next}
use Rattle.bucket_store.specs.Objects.{body_in, key_of}
use Rattle.bucket_store.specs.Sides.{Side}
use Rattle.bucket_store.specs.Tries.{Asked, status_of}

-- what the keys of a folder's objects begin with
abbrev pub front_of : BucketPlace → List ℕ → List ℕ
front_of place dir = key_of place dir ++ codes "/"

abbrev pub IsListCall : List ℕ → Option (List ℕ) → Call → Type 0
IsListCall front token (call.List prefix next) = (prefix.now ≡ front) × (option_map (λ t. t.now) next ≡ token)
IsListCall front token _ = ⊥

-- the page at that token was asked for, and this came back
abbrev pub AsksPage : BucketPlace → List ℕ → Option (List ℕ) → ℕ → Option Response → Side → Side → Type 0
AsksPage place front token made response old new = (asked : Call) × IsListCall front token asked × Asked place asked made response old new

-- it came
abbrev pub GetsPage : BucketPlace → List ℕ → Option (List ℕ) → Listing → Side → Side → Type 0
GetsPage place front token page old new =
    (made : ℕ) × (response : Option Response) × AsksPage place front token made response old new
    × (list_next made (status_of response) ≡ next.Page) × (listing_of (body_in response) ≡ Some page)

-- these pages came, each asked for where the one before it told that the listing goes on; and where it goes on behind them, if it does
abbrev pub Pages : BucketPlace → List ℕ → Option (List ℕ) → List Listing → Option (List ℕ) → Side → Side → Type 0
Pages place front token [] last old new = (last ≡ token) × (new ≡ old)
Pages place front token (p ∷ []) last old new = GetsPage place front token p old new × (last ≡ p.next)
Pages place front token (p ∷ q ∷ ps) last old new =
    (mid : Side) × GetsPage place front token p old mid × IsSome p.next × Pages place front p.next (q ∷ ps) last mid new

abbrev pub segment : List ℕ → Option (List ℕ)
segment rest = if is_one_segment rest then Some rest else None

-- the names of a page that stand directly in the folder, without its own name
abbrev pub segments_of : List ℕ → List (List ℕ) → List (List ℕ)
segments_of front keys = flat_map (λ key. option_to_list (option_and_then segment (after_prefix front key))) keys

abbrev pub segments_in : List ℕ → List Listing → List (List ℕ)
segments_in front pages = flat_map (λ p. segments_of front p.keys) pages

-- the same names, in byte order
pub record IsInOrder (names sorted : List (List ℕ)) : Type 0 where
  pub same : IsPermutation names sorted
  pub order : IsSorted (slice_cmp nat_cmp) sorted

-- all pages came, and the names are theirs; or some came, and the next didn't, or memory was wanting
abbrev pub ListsFront : BucketPlace → List ℕ → Option (List (List ℕ)) → Side → Side → Type 0
ListsFront place front (Some names) old new =
    (first : Listing) × (others : List Listing) × Pages place front None (first ∷ others) None old new
    × IsInOrder (segments_in front (first ∷ others)) names
ListsFront place front None old new =
    (pages : List Listing) × (last : Option (List ℕ)) × (mid : Side) × Pages place front None pages last old mid
    × ((new ≡ mid) ⊎ ((made : ℕ) × (response : Option Response) × AsksPage place front last made response mid new))

abbrev pub ListsAs : BucketPlace → List ℕ → Listed → Side → Side → Type 0
ListsAs place dir (listed.Names names) old new = ListsFront place (front_of place dir) (Some names) old new
ListsAs place dir listed.Failed old new = ListsFront place (front_of place dir) None old new
ListsAs place dir listed.NoMemory old new = ListsFront place (front_of place dir) None old new
