use Rattle.std.proofs.Common.{◌<◌, length, subst}
use Rattle.std.specs.List.Sorted.{IsSearchInRange}
use Rattle.share_catalog.proofs.Orders.{set_value}
use Rattle.share_catalog.proofs.sorted.put.Goals as goal

pub returns-in-Ok : goal.returns-in-Ok
returns-in-Ok g c =
    let low : c.in-Ok.at < length c.args.items.now.items = subst (λ p. IsSearchInRange p (length c.args.items.now.items)) c.in-Ok.is c.requires.bound in
    rw c.in-Ok.is (set_value c.args.items.now.items c.in-Ok.at c.args.value c.index_mut.result.now low c.index_mut.ensures.value)
