-- Words for the two passes of the reading: lines up to the first that isn't read, and the rules over their actions.
use Rattle.std.specs.Prelude.{ℕ, ◌+◌, ◌&&◌, not, List, [], ◌∷◌, Bool, Option, Some, None, Result, Ok, Err, is_some, if◌then◌else◌}
use Rattle.std.specs.Borrow.{Bor}
use Rattle.std.specs.BTreeMap.{BTreeMap, get_by}
use Rattle.std.specs.Ordering.{nat_cmp}
use Rattle.std.specs.Cmp.Lexicographic.{slice_cmp}
use Rattle.std.specs.List.{cons_option}
use Rattle.log_actions.specs.Commits.{has_good_path, is_meta_data, is_protocol}
use Rattle.log_actions.specs.declared.actions.Action.{Action}
use Rattle.log_actions.specs.declared.line_fault.LineFault.{LineFault}
use Rattle.log_commit.specs.Lines.{given}
use Rattle.log_commit.specs.declared.faults.CommitFault.{CommitFault}
use Rattle.log_commit.specs.declared.faults.CommitFault.TheVariants as fault

-- what a line adds in front of what the lines after it give
abbrev pub action_first : Result (Option Action) LineFault → List Action → List Action
action_first (Err e) rest = []
action_first (Ok o) rest = cons_option o rest

-- the actions of the lines before the first that isn't read
abbrev pub read_actions : List (List ℕ) → List Action
read_actions [] = []
read_actions (l ∷ ls) = action_first (given l) (read_actions ls)

abbrev pub number_first : ℕ → Result (Option Action) LineFault → List ℕ → List ℕ
number_first n (Err e) rest = []
number_first n (Ok None) rest = rest
number_first n (Ok (Some a)) rest = n ∷ rest

-- the numbers of the lines that give them, the first line having the number n
abbrev pub read_numbers : ℕ → List (List ℕ) → List ℕ
read_numbers n [] = []
read_numbers n (l ∷ ls) = number_first n (given l) (read_numbers (n + 1) ls)

abbrev pub fault_first : ℕ → Result (Option Action) LineFault → Option CommitFault → Option CommitFault
fault_first n (Err e) rest = Some (fault.Line n e)
fault_first n (Ok o) rest = rest

-- the fault of the first line that isn't read
abbrev pub line_fault : ℕ → List (List ℕ) → Option CommitFault
line_fault n [] = None
line_fault n (l ∷ ls) = fault_first n (given l) (line_fault (n + 1) ls)

-- whether a map has a path
abbrev pub holds : BTreeMap (Bor (List ℕ)) (Unit {0}) → List ℕ → Bool
holds seen path = is_some (get_by (λ k. slice_cmp nat_cmp path k.now) seen)

-- the first rule that an action breaks, of what is known of those before it
abbrev pub broken : ℕ → Bool → Bool → Bool → Action → Option CommitFault
broken n protocol meta_data again a =
    if is_protocol a && protocol then Some (fault.TwoProtocols n)
    else if is_meta_data a && meta_data then Some (fault.TwoMetaData n)
    else if not (has_good_path a) then Some (fault.BadPath n)
    else if again then Some (fault.PathTwice n)
    else None
