use Rattle.std.proofs.Common.{◌≡◌, drop, map}
use Rattle.part_values.specs.Columns.{column_of, kind_of_column}
use Rattle.part_values.proofs.columns.kind_in.Given as goal

-- no column before this one has the name
abbrev pub invariant-loop-column : goal.invariant-loop-column
invariant-loop-column l =
    kind_of_column l.name (map column_of l.columns) ≡ kind_of_column l.name (map column_of (drop l.column-index l.columns))
