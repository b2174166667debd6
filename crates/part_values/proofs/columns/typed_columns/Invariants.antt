use Rattle.std.proofs.Common.{◌≡◌, map, take}
use Rattle.part_values.specs.Columns.{column_of, or_other}
use Rattle.part_values.specs.Kinds.{kind_at}
use Rattle.part_values.proofs.columns.typed_columns.Given as goal

abbrev pub invariant-loop-name : goal.invariant-loop-name
invariant-loop-name l = map column_of l.columns.items ≡ map (λ name. (name, or_other (kind_at l.kinds name))) (take l.name-index l.names)
