use Rattle.std.proofs.Common.{◌≡◌, Some, subst}
use Rattle.share_client.specs.Pieces.{PiecesAt, PiecesFrom}
use Rattle.share_client.specs.Targets.{target_in}
use Rattle.share_client.proofs.Knowing.{known_as}
use Rattle.share_client.proofs.client.Client.fetch_pieces.Goals as goal

pub returns-in-Ok-Some-clause-told : goal.returns-in-Ok-Some-clause-told
returns-in-Ok-Some-clause-told g c =
    let target = c.in-Ok-Some.target in
    let read : Some target ≡ target_in c.args.url.now = rw c.in-Ok-Some.field-0-is at c.in-Ok-Some.ensures in
    let held = g.K.Sink.holds c.args.sink.now in
    let now = g.K.Sink.holds c.fetch_sized.new.sink in
    known_as g.L.Link.coming g.L.Link.closed c.args.link.now c.fetch_sized.new.link
    (PiecesFrom target c.args.piece held now c.fetch_sized.result) (PiecesAt (target_in c.args.url.now) c.args.piece held now c.fetch_sized.result)
    (λ s t fetches. subst (λ o. PiecesAt o c.args.piece held now c.fetch_sized.result s t) read fetches)
    c.fetch_sized.ensures.told
