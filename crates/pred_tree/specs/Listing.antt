-- Which files of a table a query is answered (Delta Sharing PROTOCOL.md, "JSON predicates for Filtering").
use Rattle.std.specs.Prelude.{◌≡◌, ℕ, List, Bool, true, filter, Option, Some, None}
use Rattle.json_tree.specs.declared.pairs.Pairs.{Pairs}
use Rattle.log_actions.specs.declared.actions.AddFile.{AddFile}
use Rattle.log_actions.specs.declared.actions.MetaData.{MetaData}
use Rattle.part_values.specs.Columns.{columns_in}
use Rattle.pred_tree.specs.Bound.{bound_truth}
use Rattle.pred_tree.specs.Grammar.{predicate_in}
use Rattle.pred_tree.specs.Tree.{Tree}
use Rattle.pred_tree.specs.Truth.{is_listed, is_not_false}
use Rattle.pred_tree.specs.declared.bound.BoundPred.{BoundPred}
use Rattle.pred_tree.specs.declared.filter.Filter.{Filter}

-- the predicate of the text that a query gives: none where it gives none, and where the text is no predicate
abbrev pub pred_by : Option (List ℕ) → Option Tree
pred_by None = None
pred_by (Some text) = predicate_in text

-- whether a file of a table with this metaData is listed: the predicate doesn't make it False
abbrev pub lists : Option Tree → MetaData → AddFile → Bool
lists wanted meta file = is_listed wanted (columns_in meta.schema meta.columns) file.values

-- the files that are listed, in their order
abbrev pub listed : Option Tree → MetaData → List AddFile → List AddFile
listed wanted meta files = filter (lists wanted meta) files

abbrev pub passed_by : Option BoundPred → Pairs → Bool
passed_by None values = true
passed_by (Some pred) values = is_not_false (bound_truth values pred)

-- whether a filter lets a file pass
abbrev pub passes : Filter → AddFile → Bool
passes f file = passed_by f.pred file.values

-- the filter of a predicate for tables with this metaData
abbrev pub IsFilter : Option Tree → MetaData → Filter → Type 0
IsFilter wanted meta f = (file : AddFile) → passes f file ≡ lists wanted meta file
