-- One piece of a body.
use Rattle.std.specs.Prelude.{◌≡◌, ℕ, List, ◌++◌, Bool, true, not, option_to_list}
use Rattle.share_lines.specs.declared.kinds.Line.{Line}
use Rattle.share_lines.specs.Bodies.{is_bad, line_at}

-- a piece is taken, or it is outside the grammar
pub record TakesPiece (piece : List ℕ) (old new : List Line) (taken : Bool) : Type 0 where
  pub good : taken ≡ not (is_bad piece)
  pub lines : taken ≡ true → new ≡ old ++ option_to_list (line_at piece)
