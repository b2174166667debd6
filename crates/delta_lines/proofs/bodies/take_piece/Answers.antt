use Rattle.std.proofs.Common.{◌≡◌, length, arith, tests, rules}
use Rattle.delta_lines.proofs.ReadPieces.{empty_taken}
use Rattle.delta_lines.proofs.bodies.take_piece.Goals as goal

pub returns-then-is_empty : goal.returns-then-is_empty
returns-then-is_empty c =
    let none : length c.args.piece.now ≡ 0 = search (arith, tests, rules) in
    empty_taken c.args.piece.now c.args.lines.now.items none
