use Rattle.std.proofs.Common.{◌≡◌, [], ◌++◌, take}
use Rattle.client_calls.specs.Texts.{tables_text}
use Rattle.client_calls.proofs.texts.tables_text.Given as goal

abbrev pub invariant-loop-table : goal.invariant-loop-table
invariant-loop-table l = l.text.items ≡ [] ++ tables_text (take l.table-index l.tables)
