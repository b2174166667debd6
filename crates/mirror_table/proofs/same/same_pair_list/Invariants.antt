use Rattle.std.proofs.Common.{◌≡◌, drop, map}
use Rattle.json_tree.specs.Lists.{pair_of}
use Rattle.mirror_table.specs.Same.{same_pairs}
use Rattle.mirror_table.proofs.same.same_pair_list.Given as goal

abbrev pub invariant-loop-i : goal.invariant-loop-i
invariant-loop-i l = same_pairs (map pair_of (drop l.i l.a)) (map pair_of (drop l.i l.b)) ≡ same_pairs (map pair_of l.a) (map pair_of l.b)
