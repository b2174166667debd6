use Rattle.std.proofs.Common.{◌≡◌, drop, map}
use Rattle.bucket_text.specs.Texts.{with_parts}
use Rattle.bucket_text.proofs.text.push_parts.Given as goal

-- what the parts that are left come to
abbrev pub invariant-loop-part : goal.invariant-loop-part
invariant-loop-part l =
    with_parts l.fn.out.items (map (λ x. x.now) l.parts) ≡ with_parts l.out.items (drop l.part-index (map (λ x. x.now) l.parts))
