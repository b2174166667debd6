-- A bucket as a store, and the look whether it can be one.
use Rattle.std.specs.Prelude.{◌≡◌, ◌≢◌, ℕ, ◌+◌, ◌-◌, ◌^◌, ◌≤◌, min, List, Option, None, codes}
use Rattle.edge_core.specs.declared.store.Put.{Put}
use Rattle.edge_core.specs.declared.store.Put.TheVariants as put
use Rattle.bucket_text.specs.declared.listing.Listing.{Listing}
use Rattle.bucket_store.specs.declared.ends.ObjectEnd.{ObjectEnd}
use Rattle.bucket_store.specs.declared.place.BucketPlace.{BucketPlace}
use Rattle.bucket_store.specs.declared.road.Road.{Road}
use Rattle.bucket_store.specs.declared.store.BucketStore.{BucketStore}
use Rattle.bucket_store.specs.Folders.{GetsPage, front_of}
use Rattle.bucket_store.specs.Objects.{PutsAt, mark_of}
use Rattle.bucket_store.specs.Sides.{Side}

module _ {V C : Type 0} where
  abbrev pub store_place : BucketStore V C → BucketPlace
  store_place s = s.place

  abbrev pub store_road : BucketStore V C → Road V C
  store_road s = s.road

  -- the end of the object that was read last, where it is known
  abbrev pub store_end : BucketStore V C → Option ObjectEnd
  store_end s = s.end

  -- how many puts have begun
  abbrev pub store_puts : BucketStore V C → ℕ
  store_puts s = s.puts

  -- how many calls failed
  abbrev pub store_faults : BucketStore V C → ℕ
  store_faults s = s.faults

  -- how many puts it has answered `Stored`
  abbrev pub store_stored : BucketStore V C → ℕ
  store_stored s = s.stored

  -- what its puts' marks begin with
  abbrev pub store_mark : BucketStore V C → List ℕ
  store_mark s = s.mark

  -- the same bucket and mark, no number of a put comes again, and this end is known
  pub record Keeps (known : Option ObjectEnd) (old new : BucketStore V C) : Type 0 where
    pub place : new.place ≡ old.place
    pub mark : new.mark ≡ old.mark
    pub puts : old.puts ≤ new.puts
    pub end : new.end ≡ known

  -- nothing changed but the counts of faults and of stored puts
  pub record Rests (old new : BucketStore V C) : Type 0 where
    pub road : new.road ≡ old.road
    pub place : new.place ≡ old.place
    pub mark : new.mark ≡ old.mark
    pub puts : new.puts ≡ old.puts
    pub end : new.end ≡ old.end

  -- the mark of the latest of so many puts
  abbrev pub put_mark : BucketStore V C → ℕ → List ℕ
  put_mark s number = mark_of s.mark number

-- the number of the next put, of 64 bits
abbrev pub next_number : ℕ → ℕ
next_number puts = min (puts + 1) (2 ^ 64 - 1)

abbrev pub check_name : List ℕ
check_name = codes "_share_log/.share-put-check"

abbrev pub check_bytes : List ℕ
check_bytes = codes "{}\n"

-- The bucket lists the folder, the object of the look is in it behind a put, and a second put of it, with another mark, is refused, since it is.
abbrev pub CanBeStore : BucketPlace → (first second : List ℕ) → Side → Side → Type 0
CanBeStore place first second old new =
    (page : Listing) × (a : Side) × GetsPage place (front_of place (codes "_share_log")) None page old a
    × ((answer : Put) × (b : Side) × PutsAt place first check_name check_bytes answer a b × (answer ≢ put.Failed)
    × PutsAt place second check_name check_bytes put.Exists b new)
