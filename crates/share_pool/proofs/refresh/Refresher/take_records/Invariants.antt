use Rattle.std.proofs.Common.{◌≡◌, List, length}
use Rattle.hub_calls.specs.Calls.{IsIdle}
use Rattle.hub_catalog.specs.declared.refresh_catalog.RefreshedCatalog.{RefreshedCatalog}
use Rattle.share_serve.specs.Sides.{held}
use Rattle.share_serve.specs.Turns.{Hold}
use Rattle.share_pool.specs.Refreshing.{AllFull, CatalogRefresh}
use Rattle.share_pool.proofs.refresh.Refresher.take_records.Given as goal

abbrev pub invariant-loop-calls : goal.invariant-loop-calls
invariant-loop-calls g l =
    let was = held g.W.Store.objects g.W.Store.alone g.W.Store.faults g.W.Store.stored l.fn.pass l.fn.store in
    let is = held g.W.Store.objects g.W.Store.alone g.W.Store.faults g.W.Store.stored l.pass l.store in record {
      same : IsIdle l.fn.pass l.pass;
      full : (full : List Hold) × (length full ≡ l.calls) × AllFull (λ (r : RefreshedCatalog). r.found) CatalogRefresh full was is;
    }
