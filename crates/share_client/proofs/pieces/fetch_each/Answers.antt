use Rattle.std.proofs.Common.{◌≡◌, ◌≤◌, ◌<◌, ◌+◌, ◌*◌, Ok, Err, refl, sym, subst, arith}
use Rattle.std.proofs.lemmas.Bool.Decides.{nat_tests}
use Rattle.share_client.specs.Pieces.{Delivers, FetchesPieces, most_pieces, piece_range}
use Rattle.share_client.specs.declared.fault.ClientFault.TheVariants as fault
use Rattle.share_client.proofs.Counts.{later_twice}
use Rattle.share_client.proofs.Knowing.{known_as, known_then}
use Rattle.share_client.proofs.Piecing.{Reaches, all_came, no_more, none_left, one_more, reached_more, some_left, stopped, too_many}
use Rattle.share_client.proofs.pieces.fetch_each.Goals as goal

pub returns-in_default-clause-told : goal.returns-in_default-clause-told
returns-in_default-clause-told g c =
    let target = c.args.target.now in
    let piece = c.args.piece in
    let size = c.args.size in
    let n = c.loop-number.number in
    let held = g.K.Sink.holds c.args.sink.now in
    let now = g.K.Sink.holds c.loop-number.sink in
    let end = none_left (n * piece) size (piece_range piece size n) (c.in_default.ensures n refl) in
    known_as g.L.Link.coming g.L.Link.closed c.args.link.now c.loop-number.link
    (Reaches target piece size n held now) (FetchesPieces target piece size held now (Ok tt))
    (λ s t r. all_came target piece size n held now s t (no_more piece size n c.requires.0 end) (omega (arith, c.loop-number.auto.number-end)) r)
    c.loop-number.invariant.told

pub returns-in-Err-clause-told : goal.returns-in-Err-clause-told
returns-in-Err-clause-told g c =
    let target = c.args.target.now in
    let piece = c.args.piece in
    let size = c.args.size in
    let n = c.loop-number.number in
    let e = c.in-Err.fault in
    let held = g.K.Sink.holds c.args.sink.now in
    let mid = g.K.Sink.holds c.loop-number.sink in
    let now = g.K.Sink.holds c.fetch_piece.new.sink in
    let left = some_left (n * piece) size c.in-Some.range (piece_range piece size n) (c.in-Some.ensures n refl) in
    let more = one_more piece size n c.requires.0 left.0 in
    let few : n < most_pieces = grind (arith, nat_tests, c.loop-number-test.true) in
    known_then g.L.Link.coming g.L.Link.closed c.args.link.now c.loop-number.link c.fetch_piece.new.link
    (Reaches target piece size n held mid) (Delivers target c.in-Some.range mid now (Err e)) (FetchesPieces target piece size held now (Err e))
    (λ s t u r d. stopped target piece size n held mid now e s t u (omega (arith, more)) few r (subst (λ x. Delivers target x mid now (Err e) t u) left.1 d))
    c.loop-number.invariant.told c.in-Err.ensures.told

pub loop-number-preserved : goal.loop-number-preserved
loop-number-preserved g c =
    let target = c.args.target.now in
    let piece = c.args.piece in
    let size = c.args.size in
    let n = c.loop-number.number in
    let held = g.K.Sink.holds c.args.sink.now in
    let mid = g.K.Sink.holds c.loop-number.sink in
    let now = g.K.Sink.holds c.fetch_piece.new.sink in
    let left = some_left (n * piece) size c.in-Some.range (piece_range piece size n) (c.in-Some.ensures n refl) in
    record {
      later = later_twice _ _ _ c.loop-number.invariant.later c.in-Ok.ensures.later;
      sink = omega (arith, c.loop-number.invariant.sink, c.in-Ok.ensures.sink_later);
      told = known_then g.L.Link.coming g.L.Link.closed c.args.link.now c.loop-number.link c.fetch_piece.new.link
          (Reaches target piece size n held mid) (Delivers target c.in-Some.range mid now (Ok tt)) (Reaches target piece size (n + 1) held now)
          (λ s t u r d. reached_more target piece size n held mid now s t u (one_more piece size n c.requires.0 left.0) r (subst (λ x. Delivers target x mid now (Ok tt) t u) left.1 d))
          c.loop-number.invariant.told c.in-Ok.ensures.told;
    }

pub returns-then-piece-size-clause-told : goal.returns-then-piece-size-clause-told
returns-then-piece-size-clause-told g c =
    let target = c.args.target.now in
    let piece = c.args.piece in
    let size = c.args.size in
    let n = c.loop-number.number in
    let held = g.K.Sink.holds c.args.sink.now in
    let now = g.K.Sink.holds c.loop-number.sink in
    let all : n ≡ 100000 = grind (arith, nat_tests, c.loop-number-test.false, c.loop-number.auto.number-end) in
    let end : size ≤ 100000 * piece = grind (arith, nat_tests, c.if-piece-size.true) in
    known_as g.L.Link.coming g.L.Link.closed c.args.link.now c.loop-number.link
    (Reaches target piece size n held now) (FetchesPieces target piece size held now (Ok tt))
    (λ s t r. all_came target piece size n held now s t (no_more piece size n c.requires.0 (subst (λ k. size ≤ k * piece) (sym all) end)) (omega (arith, all)) r)
    c.loop-number.invariant.told

pub returns-clause-told : goal.returns-clause-told
returns-clause-told g c =
    let target = c.args.target.now in
    let piece = c.args.piece in
    let size = c.args.size in
    let n = c.loop-number.number in
    let held = g.K.Sink.holds c.args.sink.now in
    let now = g.K.Sink.holds c.loop-number.sink in
    let all : n ≡ 100000 = grind (arith, nat_tests, c.loop-number-test.false, c.loop-number.auto.number-end) in
    let inside : 100000 * piece < size = grind (arith, nat_tests, c.if-piece-size.false) in
    let more = one_more piece size n c.requires.0 (subst (λ k. k * piece < size) (sym all) inside) in
    known_as g.L.Link.coming g.L.Link.closed c.args.link.now c.loop-number.link
    (Reaches target piece size n held now) (FetchesPieces target piece size held now (Err fault.TooManyPages))
    (λ s t r. too_many target piece size n held now s t all (omega (arith, more)) r)
    c.loop-number.invariant.told
