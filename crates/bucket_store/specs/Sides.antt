-- What a link and a clock tell before and after a call.
use Rattle.std.specs.Prelude.{◌≡◌, ℕ, List, Option, Some}
use Rattle.edge_core.specs.Lines.{ClosedLine, PeerLine}
use Rattle.bucket_store.specs.declared.road.Road.{Road}

-- the lines to come, the lines that were closed, and the moments to come
pub record Side : Type 0 where
  pub coming : List PeerLine
  pub closed : List ClosedLine
  pub moments : List ℕ

-- each of them, or none where the object doesn't tell
pub record Told : Type 0 where
  pub coming : Option (List PeerLine)
  pub closed : Option (List ClosedLine)
  pub moments : Option (List ℕ)

abbrev pub told_by : Option (List PeerLine) → Option (List ClosedLine) → Option (List ℕ) → Told
told_by coming closed moments = record { coming = coming; closed = closed; moments = moments }

-- what the link and the clock of a road tell
abbrev pub told_of : {V C : Type 0} → (V → Option (List PeerLine)) → (V → Option (List ClosedLine)) → (C → Option (List ℕ)) → Road V C → Told
told_of coming closed moments road = told_by (coming road.way) (closed road.way) (moments road.clock)

-- all of them are told
pub record Tells (told : Told) (side : Side) : Type 0 where
  pub coming_is : told.coming ≡ Some side.coming
  pub closed_is : told.closed ≡ Some side.closed
  pub moments_are : told.moments ≡ Some side.moments

-- where all was told, it still is, and this holds of both moments
pub record Known (told told_new : Told) (P : Side → Side → Type 0) : Type 0 where
  pub at : (old : Side) → Tells told old → (new : Side) × Tells told_new new × P old new
