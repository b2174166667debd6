use Rattle.std.proofs.Common.{◌≡◌, ◌∙◌, ◌≤◌, ◌+◌, length, option_copied, true, sym, ap, subst, tests, rules}
use Rattle.std.specs.Option.{option_map_or}
use Rattle.json_print.specs.Lines.{lines as pieces, lines_left as pieces_left}
use Rattle.delta_lines.proofs.ReadPieces.{few_more, piece_more, read_from}
use Rattle.delta_lines.proofs.bodies.delta_lines_of.Goals as goal

pub loop-unread-preserved : goal.loop-unread-preserved
loop-unread-preserved c =
    let at = c.loop-unread.place in
    let taken : c.in_ok-take_piece.field-0 ≡ true = search (tests, rules) in
    let left : at + (length c.in-Some.text.now + 1) ≤ length c.args.bytes.now + 1 = subst (λ o. at + option_map_or (λ t. length t.now + 1) o 0 ≤ length c.args.bytes.now + 1) c.in-Some.is c.loop-unread.invariant.few in
    record {
      read = sym (piece_more at c.loop-unread.lines.items c.take_piece.new.lines.items c.cut.result.0.now (pieces c.in-Some.text.now) (pieces_left (option_copied c.cut.result.1)) c.in_ok-take_piece.field-0 c.cut.ensures.lines c.in_ok-take_piece.ensures taken)
          ∙ ap (λ o. read_from at c.loop-unread.lines.items (pieces_left (option_copied o))) (sym c.in-Some.is) ∙ c.loop-unread.invariant.read;
      few = few_more c.cut.result.1 c.cut.result.0.now c.in-Some.text.now at (length c.args.bytes.now + 1) c.cut.ensures.whole c.cut.ensures.short left;
    }
