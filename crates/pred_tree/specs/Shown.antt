-- Which files are shown where a table is shared in part, by a predicate over its partition columns (own; Delta Sharing PROTOCOL.md, "JSON predicates for Filtering").
use Rattle.std.specs.Prelude.{◌≡◌, ℕ, List, Bool, true, false, Option, Some, None}
use Rattle.json_tree.specs.declared.pairs.Pairs.{Pairs}
use Rattle.log_actions.specs.declared.actions.AddFile.{AddFile}
use Rattle.log_actions.specs.declared.actions.MetaData.{MetaData}
use Rattle.part_values.specs.Columns.{columns_in}
use Rattle.pred_tree.specs.Bound.{bound_truth}
use Rattle.pred_tree.specs.Grammar.{predicate_in}
use Rattle.pred_tree.specs.Tree.{Tree}
use Rattle.pred_tree.specs.Truth.{truth}
use Rattle.pred_tree.specs.declared.shown.Shown.{Shown}
use Rattle.pred_tree.specs.declared.shown.ShownBy.{ShownBy}
use Rattle.pred_tree.specs.declared.shown.ShownBy.TheVariants as by
use Rattle.pred_tree.specs.declared.truth.Truth.{Truth}
use Rattle.pred_tree.specs.declared.truth.Truth.TheVariants.{True, False, Unknown}

abbrev pub is_true : Truth → Bool
is_true True = true
is_true False = false
is_true Unknown = false

-- a text that is no predicate shows nothing
abbrev pub is_shown : Option Tree → MetaData → AddFile → Bool
is_shown None meta file = false
is_shown (Some t) meta file = is_true (truth (columns_in meta.schema meta.columns) file.values t)

-- whether a file of a table with this metaData is shown: each is, unless there is a text; then those of which the predicate is true
abbrev pub shows : Option (List ℕ) → MetaData → AddFile → Bool
shows None meta file = true
shows (Some text) meta file = is_shown (predicate_in text) meta file

abbrev pub shown_by : ShownBy → Pairs → Bool
shown_by by.All values = true
shown_by by.Nothing values = false
shown_by (by.Where pred) values = is_true (bound_truth values pred)

-- whether this shows a file
abbrev pub shown_in : Shown → AddFile → Bool
shown_in s file = shown_by s.by file.values

-- what is shown of tables with this metaData by such a text
abbrev pub IsShown : Option (List ℕ) → MetaData → Shown → Type 0
IsShown only meta s = (file : AddFile) → shown_in s file ≡ shows only meta file
