use Rattle.std.proofs.Common.{◌≡◌, Some, subst}
use Rattle.share_client.specs.Files.{Fetches, FetchesAt, FetchesFrom}
use Rattle.share_client.specs.Targets.{target_in}
use Rattle.share_client.proofs.Knowing.{known_as}
use Rattle.share_client.proofs.client.Client.fetch_file.Goals as goal

pub returns-in-Ok-Some-clause-told : goal.returns-in-Ok-Some-clause-told
returns-in-Ok-Some-clause-told g c =
    let target = c.in-Ok-Some.target in
    let read : Some target ≡ target_in c.args.url.now = rw c.in-Ok-Some.field-0-is at c.in-Ok-Some.ensures in
    let held = g.K.Sink.holds c.args.sink.now in
    let now = g.K.Sink.holds c.fetch_from.new.sink in
    known_as g.L.Link.coming g.L.Link.closed c.args.link.now c.fetch_from.new.link
    (FetchesFrom target held now c.fetch_from.result) (Fetches c.args.url.now held now c.fetch_from.result)
    (λ s t fetches. subst (λ o. FetchesAt o held now c.fetch_from.result s t) read fetches)
    c.fetch_from.ensures.told
