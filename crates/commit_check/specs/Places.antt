-- The place of the first action that an offer can't have, as the code finds it.
use Rattle.std.specs.Prelude.{ℕ, ◌-◌, Option, Some, None, nat_lt, if◌then◌else◌}
use Rattle.log_commit.specs.declared.faults.CommitFault.{CommitFault}
use Rattle.log_commit.specs.declared.faults.CommitFault.TheVariants as fault

-- the place in the offer of the action that breaks a rule: faults count from 1, and the commitInfo stands in front
abbrev pub place_in : CommitFault → ℕ
place_in fault.TooLarge = 0
place_in (fault.Line n e) = n - 2
place_in (fault.TwoProtocols n) = n - 2
place_in (fault.TwoMetaData n) = n - 2
place_in (fault.BadPath n) = n - 2
place_in (fault.PathTwice n) = n - 2

-- the lesser of two places, the first of which there may not be
abbrev pub lesser : Option ℕ → ℕ → ℕ
lesser None n = n
lesser (Some m) n = if nat_lt m n then m else n
