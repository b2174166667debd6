-- The printed texts of commits (Delta Lake PROTOCOL.md, "Delta Log Entries").
use Rattle.std.specs.Prelude.{ℕ, List, [], ◌∷◌, ◌++◌, flat_map, length}
use Rattle.std.specs.List.{sum_by}
use Rattle.log_actions.specs.Printing.{line_text}
use Rattle.log_actions.specs.declared.actions.Action.{Action}

-- the printed text of a commit: each action's line and a line feed
abbrev pub commit_text : List Action → List ℕ
commit_text actions = flat_map (λ a. line_text a ++ 10 ∷ []) actions

-- how many bytes the printed texts of commits have in sum
abbrev pub printed_bytes : List (List Action) → ℕ
printed_bytes log = sum_by (λ c. length (commit_text c)) log
