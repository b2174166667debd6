-- Pairs behind their type.
use Rattle.std.specs.Prelude.{ℕ, List, Option}
use Rattle.json_tree.specs.declared.pairs.Pair.{Pair}

abbrev pub pair_of : Pair → List ℕ × Option (List ℕ)
pair_of p = (p.name, p.value)
