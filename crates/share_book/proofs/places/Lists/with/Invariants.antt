use Rattle.std.proofs.Common.{map}
use Rattle.std.specs.Prelude.{All, IfSome, option_copied}
use Rattle.std.specs.Arc.{arc_value}
use Rattle.log_replay.specs.State.{State}
use Rattle.share_book.specs.Placed.{IsListOf}
use Rattle.share_book.proofs.places.Lists.with.Given as goal

abbrev pub invariant-loop-list : goal.invariant-loop-list
invariant-loop-list l = (s : State) → IfSome (option_copied l.fn.older) (All (IsListOf s)) → IsListOf s l.fn.list → All (IsListOf s) (map arc_value l.items.items)
