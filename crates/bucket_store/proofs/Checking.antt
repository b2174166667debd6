-- A bucket is listed, takes a put, and refuses the second.
use Rattle.std.proofs.Common.{◌≡◌, ◌≢◌, ℕ, List, None, Result, Ok, Err, ap, ◌∙◌, subst}
use Rattle.std.specs.Prelude.{MatchResult, ⊤, codes}
use Rattle.edge_core.specs.declared.store.Put.{Put}
use Rattle.edge_core.specs.declared.store.Put.TheVariants as put
use Rattle.bucket_text.specs.declared.listing.Listing.{Listing}
use Rattle.bucket_store.specs.declared.place.BucketPlace.{BucketPlace}
use Rattle.bucket_store.specs.Folders.{GetsPage, front_of}
use Rattle.bucket_store.specs.Objects.{PutsAt, mark_of}
use Rattle.bucket_store.specs.Sides.{Side}
use Rattle.bucket_store.specs.Stores.{CanBeStore, check_bytes, check_name, next_number}

pub checked :
    {A E : Type 0} (place : BucketPlace) (mark : List ℕ) (before first second : ℕ) (one_put again : Put) (r : Result A E) (s t u v : Side)
    → first ≡ next_number before → second ≡ next_number first → one_put ≢ put.Failed → MatchResult r (λ _. again ≡ put.Exists) (λ _. ⊤)
    → ((page : Listing) × GetsPage place (front_of place (codes "_share_log")) None page s t)
    → PutsAt place (mark_of mark first) check_name check_bytes one_put t u
    → PutsAt place (mark_of mark second) check_name check_bytes again u v
    → MatchResult r (λ _. CanBeStore place (mark_of mark (next_number before)) (mark_of mark (next_number (next_number before))) s v) (λ _. ⊤)
checked place mark before first second one_put again (Ok x) s t u v one two there kept listed put_first put_second = (
  listed.0,
  t,
  listed.1,
  (
    one_put,
    u,
    subst (λ n. PutsAt place (mark_of mark n) check_name check_bytes one_put t u) one put_first,
    there,
    subst (λ a. PutsAt place (mark_of mark (next_number (next_number before))) check_name check_bytes a u v) kept
        (subst (λ n. PutsAt place (mark_of mark n) check_name check_bytes again u v) (two ∙ ap (λ n. next_number n) one) put_second),
  ),
)
checked place mark before first second one_put again (Err e) s t u v one two there kept listed put_first put_second = tt
