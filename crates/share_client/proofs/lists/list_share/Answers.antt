use Rattle.std.proofs.Common.{ap, ◌∙◌, subst}
use Rattle.share_client.specs.Listings.{list_paging}
use Rattle.share_client.specs.Steps.{ListsOnto, ShareLists}
use Rattle.share_client.specs.Lists.{table_in}
use Rattle.share_client.specs.Routes.{tables_route}
use Rattle.share_client.proofs.Knowing.{known_as}
use Rattle.share_client.proofs.Listed.{share_listed}
use Rattle.share_client.proofs.lists.list_share.Goals as goal

pub returns-clause-told : goal.returns-clause-told
returns-clause-told g c =
    let server = c.args.server.now in
    let was = c.args.found.now.items in
    let now = c.list_all.new.found.items in
    let spelt = c.deref.ensures ∙ c.in-Ok.ensures ∙ ap tables_route c.as_str.ensures in
    known_as g.L.Link.coming g.L.Link.closed c.args.link.now c.list_all.new.link
    (ListsOnto (list_paging table_in server c.deref.result.now) was now c.list_all.result)
    (ShareLists server c.args.share.now was now c.list_all.result)
    (λ s t lists. share_listed server c.args.share.now was now c.list_all.result s t (subst (λ route. ListsOnto (list_paging table_in server route) was now c.list_all.result s t) spelt lists))
    c.list_all.ensures.told
