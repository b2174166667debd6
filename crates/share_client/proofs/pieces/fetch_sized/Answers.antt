use Rattle.std.proofs.Common.{inl, inr, Ok, Err, refl}
use Rattle.share_client.specs.Pieces.{FetchesPieces, PiecesFrom}
use Rattle.share_client.specs.Sizes.{SizesFrom}
use Rattle.share_client.proofs.Knowing.{known_as, known_then}
use Rattle.share_client.proofs.pieces.fetch_sized.Goals as goal

pub returns-in-Ok-fetch_each-clause-told : goal.returns-in-Ok-fetch_each-clause-told
returns-in-Ok-fetch_each-clause-told g c =
    let target = c.args.target.now in
    let piece = c.args.piece in
    let size = c.in-Ok.size in
    let held = g.K.Sink.holds c.args.sink.now in
    let now = g.K.Sink.holds c.fetch_each.new.sink in
    known_then g.L.Link.coming g.L.Link.closed c.args.link.now c.size_from.new.link c.fetch_each.new.link
    (SizesFrom target (Ok size)) (FetchesPieces target piece size held now (Ok tt)) (PiecesFrom target piece held now (Ok size))
    (λ s t u sizes fetches. (t, sizes, fetches))
    c.in-Ok.ensures.told c.in-Ok-fetch_each.ensures.told

pub returns-in-Err-fetch_each-clause-told : goal.returns-in-Err-fetch_each-clause-told
returns-in-Err-fetch_each-clause-told g c =
    let target = c.args.target.now in
    let piece = c.args.piece in
    let size = c.in-Ok.size in
    let e = c.in-Err-fetch_each.fault in
    let held = g.K.Sink.holds c.args.sink.now in
    let now = g.K.Sink.holds c.fetch_each.new.sink in
    known_then g.L.Link.coming g.L.Link.closed c.args.link.now c.size_from.new.link c.fetch_each.new.link
    (SizesFrom target (Ok size)) (FetchesPieces target piece size held now (Err e)) (PiecesFrom target piece held now (Err e))
    (λ s t u sizes fetches. inr (size, t, sizes, fetches))
    c.in-Ok.ensures.told c.in-Err-fetch_each.ensures.told

pub returns-in-Err-clause-told : goal.returns-in-Err-clause-told
returns-in-Err-clause-told g c =
    let target = c.args.target.now in
    let e = c.in-Err.fault in
    let held = g.K.Sink.holds c.args.sink.now in
    known_as g.L.Link.coming g.L.Link.closed c.args.link.now c.size_from.new.link
    (SizesFrom target (Err e)) (PiecesFrom target c.args.piece held held (Err e))
    (λ s t sizes. inl (sizes, refl))
    c.in-Err.ensures.told
