use Rattle.std.proofs.Common.{◌≡◌, drop, map}
use Rattle.bucket_text.specs.Elements.{with_pieces}
use Rattle.bucket_text.proofs.elements.take_pieces.Given as goal

-- what the pieces that are left come to
abbrev pub invariant-loop-piece : goal.invariant-loop-piece
invariant-loop-piece l =
    with_pieces (l.fn.path.items, l.fn.elements.items) (map (λ x. x.now) l.pieces)
    ≡ with_pieces (l.path.items, l.elements.items) (drop l.piece-index (map (λ x. x.now) l.pieces))
