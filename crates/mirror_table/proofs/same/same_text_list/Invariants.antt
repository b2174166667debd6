use Rattle.std.proofs.Common.{◌≡◌, drop}
use Rattle.mirror_table.specs.Same.{same_texts}
use Rattle.mirror_table.proofs.same.same_text_list.Given as goal

abbrev pub invariant-loop-i : goal.invariant-loop-i
invariant-loop-i l = same_texts (drop l.i l.a) (drop l.i l.b) ≡ same_texts l.a l.b
