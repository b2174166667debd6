use Rattle.std.proofs.Common.{◌≡◌, ◌++◌, is_some, map, not, take}
use Rattle.std.specs.Prelude.{filter}
use Rattle.log_replay.specs.Applied.{found}
use Rattle.mirror_table.specs.Targets.{remove_at}
use Rattle.mirror_table.proofs.changes.push_removes_of.Given as goal

abbrev pub invariant-loop-place : goal.invariant-loop-place
invariant-loop-place l = l.actions.items ≡ l.fn.actions.items ++ map (remove_at l.fn.now) (filter (λ f. not (is_some (found l.wanted f.path))) (take l.place l.state.files))
