use Rattle.std.proofs.Common.{◌≡◌, Some, subst}
use Rattle.share_client.specs.Sizes.{SizesAt, SizesFrom}
use Rattle.share_client.specs.Targets.{target_in}
use Rattle.share_client.proofs.Knowing.{known_as}
use Rattle.share_client.proofs.client.Client.file_size.Goals as goal

pub returns-in-Ok-Some-clause-told : goal.returns-in-Ok-Some-clause-told
returns-in-Ok-Some-clause-told g c =
    let target = c.in-Ok-Some.target in
    let read : Some target ≡ target_in c.args.url.now = rw c.in-Ok-Some.field-0-is at c.in-Ok-Some.ensures in
    known_as g.L.Link.coming g.L.Link.closed c.args.link.now c.size_from.new.link
    (SizesFrom target c.size_from.result) (SizesAt (target_in c.args.url.now) c.size_from.result)
    (λ s t sizes. subst (λ o. SizesAt o c.size_from.result s t) read sizes)
    c.size_from.ensures.told
