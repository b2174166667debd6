-- Where a worker stands.
use Rattle.std.specs.Prelude.{ℕ, List, Option}
use Rattle.edge_core.specs.Lines.{ClosedLine}
use Rattle.share_serve.specs.Turns.{Hold}

-- the lines that are to come to its door and those that were closed, its clock's moments, and its place at the hub with its store
pub record Post : Type 0 where
  pub coming : Option (List (List ℕ))
  pub closed : Option (List ClosedLine)
  pub moments : Option (List ℕ)
  pub hold : Hold

abbrev pub post : Option (List (List ℕ)) → Option (List ClosedLine) → Option (List ℕ) → Hold → Post
post coming closed moments h = record { coming = coming; closed = closed; moments = moments; hold = h }
