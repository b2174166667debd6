use Rattle.std.proofs.Common.{◌≡◌, drop}
use Rattle.std.specs.Prelude.{option_map}
use Rattle.std.specs.List.{position_from}
use Rattle.commit_check.specs.Admission.{removes_absent}
use Rattle.commit_check.proofs.written.first_absent.Given as goal

abbrev pub invariant-loop-place : goal.invariant-loop-place
invariant-loop-place l = position_from (removes_absent (option_map (λ s. s.now) l.at)) l.place (drop l.place l.actions) ≡ position_from (removes_absent (option_map (λ s. s.now) l.at)) 0 l.actions
