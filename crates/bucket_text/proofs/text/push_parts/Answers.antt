use Rattle.std.proofs.Common.{ℕ, List, Bor, arith}
use Rattle.bucket_text.specs.Texts.{with_part}
use Rattle.bucket_text.proofs.Walks.{step_good, step_fault, steps_end}
use Rattle.bucket_text.proofs.text.push_parts.Goals as goal

pub loop-part-preserved : goal.loop-part-preserved
loop-part-preserved c =
    step_good with_part (λ (x : Bor (List ℕ)). x.now) _ c.args.parts.now c.loop-part.part-index _ c.loop-part.out.items _ c.loop-part-test.true c.loop-part.invariant c.in-Ok.ensures

pub returns-in-Err : goal.returns-in-Err
returns-in-Err c =
    step_fault with_part (λ (x : Bor (List ℕ)). x.now) _ c.args.parts.now c.loop-part.part-index _ c.loop-part.out.items c.in-Err.fault c.loop-part-test.true c.loop-part.invariant c.in-Err.ensures

pub returns : goal.returns
returns c = steps_end with_part (λ (x : Bor (List ℕ)). x.now) _ c.args.parts.now c.loop-part.part-index c.loop-part.out.items (omega arith) c.loop-part.invariant
