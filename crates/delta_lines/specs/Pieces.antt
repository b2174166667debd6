-- One piece of a body.
use Rattle.std.specs.Prelude.{◌≡◌, ℕ, List, ◌++◌, Bool, true, not, option_to_list}
use Rattle.delta_lines.specs.declared.kinds.DeltaLine.{DeltaLine}
use Rattle.delta_lines.specs.Bodies.{delta_line_at, is_bad}

-- a piece is taken, or it is outside the grammar
pub record TakesPiece (piece : List ℕ) (old new : List DeltaLine) (taken : Bool) : Type 0 where
  pub good : taken ≡ not (is_bad piece)
  pub lines : taken ≡ true → new ≡ old ++ option_to_list (delta_line_at piece)
