-- The text of a commit (Delta Lake PROTOCOL.md, "Delta Log Entries" and "Actions"), and the first fault of bytes that are none.
use Rattle.std.specs.Prelude.{◌≡◌, ℕ, zero, suc, ◌+◌, ◌^◌, ◌≤◌, List, [], ◌∷◌, true, Option, Some, None, Result, Ok, Err, filter_map, length, take, slice_index_or, nat_le, if◌then◌else◌, ⊤}
use Rattle.std.specs.List.{list_all}
use Rattle.log_actions.specs.Commits.{IsCommit}
use Rattle.log_actions.specs.declared.actions.Action.{Action}
use Rattle.log_actions.specs.declared.line_fault.LineFault.{LineFault}
use Rattle.json_print.specs.Lines.{lines}
use Rattle.log_commit.specs.Lines.{actions_of, given, is_read}
use Rattle.log_commit.specs.Rules.{broken_rule}
use Rattle.log_commit.specs.declared.faults.CommitFault.{CommitFault}
use Rattle.log_commit.specs.declared.faults.CommitFault.TheVariants as fault
use Rattle.log_commit.specs.declared.faults.NoCommit.{NoCommit}
use Rattle.log_commit.specs.declared.faults.NoCommit.TheVariants as none

-- Bytes are the text of a commit with these actions: at most 16 MiB, each line is read, the lines give the actions in order, and the actions keep the rules of a commit.
pub record IsCommitText (bytes : List ℕ) (actions : List Action) : Type 0 where
  pub fits : length bytes ≤ 2 ^ 24
  pub read : list_all is_read (lines bytes) ≡ true
  pub gives : actions ≡ actions_of (lines bytes)
  pub rules : IsCommit actions

-- the fault of line n, of what it gives after the actions before it
abbrev pub fault_given : ℕ → List Action → Result (Option Action) LineFault → Option CommitFault
fault_given n before (Err e) = Some (fault.Line n e)
fault_given n before (Ok None) = None
fault_given n before (Ok (Some a)) = broken_rule n before a

-- the fault of the line at a place, if it has one; the line at place 0 is line 1
abbrev pub fault_at : List (List ℕ) → ℕ → Option CommitFault
fault_at ls place = fault_given (place + 1) (actions_of (take place ls)) (given (slice_index_or ls place []))

-- so many places from one on
abbrev pub places : ℕ → ℕ → List ℕ
places first zero = []
places first (suc count) = first ∷ places (suc first) count

-- the faults of the lines, by their numbers
abbrev pub faults : List (List ℕ) → List CommitFault
faults ls = filter_map (fault_at ls) (places 0 (length ls))

abbrev pub unless_faulty : List CommitFault → List Action → Result (List Action) CommitFault
unless_faulty [] actions = Ok actions
unless_faulty (e ∷ es) actions = Err e

-- the actions of the commit whose text the bytes are, or the first fault: the size, else that of the first faulty line
abbrev pub commit_in : List ℕ → Result (List Action) CommitFault
commit_in bytes = if nat_le (length bytes) (2 ^ 24) then unless_faulty (faults (lines bytes)) (actions_of (lines bytes)) else Err fault.TooLarge

-- The answer is what the bytes stand for. Want of memory says nothing.
abbrev pub Answers : Result (List Action) NoCommit → Result (List Action) CommitFault → Type 0
Answers (Ok actions) what = what ≡ Ok actions
Answers (Err (none.Fault e)) what = what ≡ Err e
Answers (Err none.NoMemory) what = ⊤
