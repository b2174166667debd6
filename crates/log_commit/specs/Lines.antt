-- What each line of a commit's text gives (Delta Lake PROTOCOL.md, "Delta Log Entries": JSON values that line feeds part).
use Rattle.std.specs.Prelude.{◌==◌, ℕ, List, [], ◌∷◌, Bool, Option, None, Result, Ok, Err, filter_map, is_ok, if◌then◌else◌}
use Rattle.std.specs.List.{list_all, list_any}
use Rattle.log_actions.specs.Lines.{action_at}
use Rattle.log_actions.specs.declared.actions.Action.{Action}
use Rattle.log_actions.specs.declared.line_fault.LineFault.{LineFault}

-- spaces, tabs and carriage returns alone
abbrev pub is_blank : List ℕ → Bool
is_blank line = list_all (λ b. list_any (λ c. c == b) (32 ∷ 9 ∷ 13 ∷ [])) line

-- what a line gives: nothing where it is blank, else what it stands for
abbrev pub given : List ℕ → Result (Option Action) LineFault
given line = if is_blank line then Ok None else action_at line

-- a line without a fault
abbrev pub is_read : List ℕ → Bool
is_read line = is_ok (given line)

abbrev pub action_or_none : Result (Option Action) LineFault → Option Action
action_or_none (Ok o) = o
action_or_none (Err e) = None

-- the line's action, if it has one
abbrev pub line_action : List ℕ → Option Action
line_action line = action_or_none (given line)

-- the actions that lines give, in order
abbrev pub actions_of : List (List ℕ) → List Action
actions_of ls = filter_map line_action ls
