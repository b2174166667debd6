-- Requests of a call, one after another.
use Rattle.std.proofs.Common.{◌≡◌, ℕ, ◌&&◌, Bool, true, false, inl, inr, Option, nat_lt, refl}
use Rattle.signed_call.specs.declared.call.Call.{Call}
use Rattle.signed_call.specs.declared.call.Call.TheVariants as call
use Rattle.bucket_store.specs.declared.exchange.Response.{Response}
use Rattle.bucket_store.specs.declared.place.BucketPlace.{BucketPlace}
use Rattle.bucket_store.specs.declared.puts.PutReply.{PutReply}
use Rattle.bucket_store.specs.declared.puts.PutReply.TheVariants as reply
use Rattle.bucket_store.specs.Exchanges.{Asks}
use Rattle.bucket_store.specs.Looks.{may_pass}
use Rattle.bucket_store.specs.Puts.{put_next, put_reply}
use Rattle.bucket_store.specs.Sides.{Side}
use Rattle.bucket_store.specs.Tries.{Asked, is_again, says_again, status_of}

no_fourth_put : (r : PutReply) → says_again (put_next 3 r) ≡ false
no_fourth_put reply.Made = refl
no_fourth_put reply.Taken = refl
no_fourth_put reply.Unsure = refl
no_fourth_put reply.Refused = refl

no_more : (b : Bool) → (b && nat_lt 3 3) ≡ false
no_more true = refl
no_more false = refl

-- behind the third request there is none
pub no_fourth : (asked : Call) (status : Option ℕ) → is_again asked 3 status ≡ false
no_fourth (call.PutAbsent name mark bytes) status = no_fourth_put (put_reply status)
no_fourth (call.Get name from last) status = no_more (may_pass status)
no_fourth (call.Head name) status = no_more (may_pass status)
no_fourth (call.List prefix token) status = no_more (may_pass status)

pub asked_once : (place : BucketPlace) (asked : Call) (r : Option Response) (s t : Side) → is_again asked 1 (status_of r) ≡ false → Asks place asked r s t → Asked place asked 1 r s t
asked_once place asked r s t last asks = inl (refl, (asks, last))

pub asked_twice :
    (place : BucketPlace) (asked : Call) (q r : Option Response) (s t u : Side)
    → is_again asked 1 (status_of q) ≡ true → is_again asked 2 (status_of r) ≡ false → Asks place asked q s t → Asks place asked r t u → Asked place asked 2 r s u
asked_twice place asked q r s t u more last first second = inr (inl (refl, (t, (q, first, more), (second, last))))

pub asked_thrice :
    (place : BucketPlace) (asked : Call) (p q r : Option Response) (s t u v : Side)
    → is_again asked 1 (status_of p) ≡ true → is_again asked 2 (status_of q) ≡ true
    → Asks place asked p s t → Asks place asked q t u → Asks place asked r u v → Asked place asked 3 r s v
asked_thrice place asked p q r s t u v more again first second third =
    inr (inr (refl, (t, u, (p, first, more), (q, second, again), (third, no_fourth asked (status_of r)))))
