-- What is known of the actions of lines that were read.
use Rattle.std.specs.Prelude.{◌≡◌, ◌||◌, ◌++◌, ℕ, List, [], false, Option, None, Some, Result, Ok, filter_map, bytes_eq}
use Rattle.std.specs.List.{list_any}
use Rattle.std.specs.Option.{option_map_or}
use Rattle.log_actions.specs.Commits.{counted_path, is_meta_data, is_protocol}
use Rattle.log_actions.specs.Lines.{action_at}
use Rattle.log_actions.specs.Printing.{has_vector, line_text}
use Rattle.log_actions.specs.declared.actions.Action.{Action}
use Rattle.log_actions.specs.declared.line_fault.LineFault.{LineFault}
use Rattle.log_commit.specs.Passes.{action_first, fault_first, holds, line_fault, number_first, read_actions, read_numbers}
use Rattle.log_commit.specs.declared.faults.CommitFault.{CommitFault}
use Rattle.log_commit.specs.declared.lines.Found.{Found}
use Rattle.log_commit.specs.declared.rules.Seen.{Seen}

-- what line n gives was added, or its fault answered
pub record TakesLine (n : ℕ) (what : Result (Option Action) LineFault) (old new : Found) (stop : Option CommitFault) : Type 0 where
  pub fault : stop ≡ fault_first n what None
  pub numbers : new.numbers.items ≡ old.numbers.items ++ number_first n what []
  pub actions : new.actions.items ≡ old.actions.items ++ action_first what []

-- the actions of the lines before the first that isn't read, and its fault
pub record AreRead (ls : List (List ℕ)) (found : Found) (stop : Option CommitFault) : Type 0 where
  pub fault : stop ≡ line_fault 1 ls
  pub numbers : found.numbers.items ≡ read_numbers 1 ls
  pub actions : found.actions.items ≡ read_actions ls

-- one action more is known
pub record Records (old new : Seen) (a : Action) : Type 0 where
  pub protocol : new.protocol ≡ (old.protocol || is_protocol a)
  pub meta_data : new.meta_data ≡ (old.meta_data || is_meta_data a)
  pub paths : (q : List ℕ) → holds new.paths q ≡ (option_map_or (λ path. bytes_eq path q) (counted_path a) false || holds old.paths q)

-- what is known is that of these actions
pub record Knows (seen : Seen) (front : List Action) : Type 0 where
  pub protocol : seen.protocol ≡ list_any is_protocol front
  pub meta_data : seen.meta_data ≡ list_any is_meta_data front
  pub paths : (q : List ℕ) → holds seen.paths q ≡ list_any (bytes_eq q) (filter_map counted_path front)

-- without a deletion vector the action is read back from its line
abbrev pub ReadsBack : Action → Type 0
ReadsBack a = has_vector a ≡ false → action_at (line_text a) ≡ Ok (Some a)
