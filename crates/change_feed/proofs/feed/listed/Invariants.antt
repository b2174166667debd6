use Rattle.std.proofs.Common.{◌≡◌, ◌+◌, ◌++◌, drop, map}
use Rattle.std.specs.Arc.{arc_value}
use Rattle.std.specs.Prelude.{filter_map}
use Rattle.change_feed.specs.Known.{change_by}
use Rattle.change_feed.specs.Shown.{changes_from}
use Rattle.change_feed.proofs.feed.listed.Given as goal

abbrev pub invariant-loop-place : goal.invariant-loop-place
invariant-loop-place l = l.changes.items ++ changes_from (l.from + l.place) (drop l.place l.marks) (drop l.place (map arc_value l.commits)) ≡ changes_from l.from l.marks (map arc_value l.commits)

abbrev pub invariant-loop-action : goal.invariant-loop-action
invariant-loop-action l = l.changes.items ++ filter_map (change_by l.rows l.version l.mark.time) (drop l.action-index l.actions) ≡ l.initial.changes.items ++ filter_map (change_by l.rows l.version l.mark.time) l.actions
