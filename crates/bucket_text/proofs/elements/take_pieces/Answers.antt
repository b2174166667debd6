use Rattle.std.proofs.Common.{ℕ, List, Bor, arith}
use Rattle.bucket_text.specs.Elements.{with_piece}
use Rattle.bucket_text.proofs.Walks.{step_good, step_fault, steps_end}
use Rattle.bucket_text.proofs.elements.take_pieces.Goals as goal

pub loop-piece-preserved : goal.loop-piece-preserved
loop-piece-preserved c =
    step_good with_piece (λ (x : Bor (List ℕ)). x.now) _ c.args.pieces.now c.loop-piece.piece-index _ (c.loop-piece.path.items, c.loop-piece.elements.items) _ c.loop-piece-test.true c.loop-piece.invariant c.in-Ok.ensures

pub returns-in-Err : goal.returns-in-Err
returns-in-Err c =
    step_fault with_piece (λ (x : Bor (List ℕ)). x.now) _ c.args.pieces.now c.loop-piece.piece-index _ (c.loop-piece.path.items, c.loop-piece.elements.items) c.in-Err.fault c.loop-piece-test.true c.loop-piece.invariant c.in-Err.ensures

pub returns : goal.returns
returns c =
    steps_end with_piece (λ (x : Bor (List ℕ)). x.now) _ c.args.pieces.now c.loop-piece.piece-index (c.loop-piece.path.items, c.loop-piece.elements.items) (omega arith) c.loop-piece.invariant
