use Rattle.std.proofs.Common.{◌≡◌, drop}
use Rattle.std.specs.List.{position_from}
use Rattle.commit_check.specs.Admission.{is_unfit}
use Rattle.commit_check.proofs.made.first_unfit.Given as goal

abbrev pub invariant-loop-place : goal.invariant-loop-place
invariant-loop-place l = position_from (is_unfit l.location) l.place (drop l.place l.actions) ≡ position_from (is_unfit l.location) 0 l.actions
