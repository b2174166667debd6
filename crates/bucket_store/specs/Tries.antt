-- How often a call is asked: once, and as long as answers say that it is asked again, three times at most.
use Rattle.std.specs.Prelude.{◌≡◌, ℕ, ◌⊎◌, ◌&&◌, Bool, true, false, Option, Some, None, nat_lt}
use Rattle.signed_call.specs.declared.call.Call.{Call}
use Rattle.signed_call.specs.declared.call.Call.TheVariants as call
use Rattle.bucket_store.specs.declared.exchange.Response.{Response}
use Rattle.bucket_store.specs.declared.place.BucketPlace.{BucketPlace}
use Rattle.bucket_store.specs.declared.puts.PutNext.{PutNext}
use Rattle.bucket_store.specs.declared.puts.PutNext.TheVariants as next
use Rattle.bucket_store.specs.Exchanges.{Asks}
use Rattle.bucket_store.specs.Looks.{may_pass}
use Rattle.bucket_store.specs.Puts.{put_next, put_reply}
use Rattle.bucket_store.specs.Sides.{Side}

-- the status; none where there is no response
abbrev pub status_of : Option Response → Option ℕ
status_of None = None
status_of (Some r) = Some r.status

abbrev pub says_again : PutNext → Bool
says_again next.Again = true
says_again _ = false

-- whether the made-th request of a call is followed by another, by its status: of a put as its decision says, else as long as a failure may pass
abbrev pub is_again : Call → ℕ → Option ℕ → Bool
is_again (call.PutAbsent name mark bytes) made status = says_again (put_next made (put_reply status))
is_again _ made status = may_pass status && nat_lt made 3

-- a request that another one follows
abbrev pub IsFollowed : BucketPlace → Call → ℕ → Side → Side → Type 0
IsFollowed place call made old new = (reply : Option Response) × Asks place call reply old new × (is_again call made (status_of reply) ≡ true)

-- a request that none follows
abbrev pub IsLast : BucketPlace → Call → ℕ → Option Response → Side → Side → Type 0
IsLast place call made reply old new = Asks place call reply old new × (is_again call made (status_of reply) ≡ false)

-- so many requests were made, and this is what came back for the last
abbrev pub Asked : BucketPlace → Call → ℕ → Option Response → Side → Side → Type 0
Asked place call made reply old new =
    ((made ≡ 1) × IsLast place call 1 reply old new)
    ⊎ ((made ≡ 2) × ((a : Side) × IsFollowed place call 1 old a × IsLast place call 2 reply a new))
    ⊎ ((made ≡ 3) × ((a b : Side) × IsFollowed place call 1 old a × IsFollowed place call 2 a b × IsLast place call 3 reply b new))
