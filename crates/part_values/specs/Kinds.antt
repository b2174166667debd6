-- Types by name, as the code holds them.
use Rattle.std.specs.Prelude.{ℕ, List, Option}
use Rattle.std.specs.Borrow.{Bor}
use Rattle.std.specs.BTreeMap.{BTreeMap, get_by}
use Rattle.std.specs.Ordering.{nat_cmp}
use Rattle.std.specs.Cmp.Lexicographic.{slice_cmp}
use Rattle.part_values.specs.declared.value.PartType.{PartType}

abbrev pub kind_at : BTreeMap (Bor (List ℕ)) PartType → List ℕ → Option PartType
kind_at kinds name = get_by (λ k. slice_cmp nat_cmp name k.now) kinds
