use Rattle.std.proofs.Common.{◌+◌, ◌∙◌, ◌∷◌, [], ◌++◌, Ok, ap}
use Rattle.std.proofs.lemmas.List.{length_push}
use Rattle.hub_calls.proofs.Passes.{idle_more}
use Rattle.hub_catalog.specs.declared.refresh_catalog.RefreshedCatalog.{RefreshedCatalog}
use Rattle.share_serve.specs.Sides.{hold, shelved}
use Rattle.share_pool.specs.Refreshing.{CatalogRefresh}
use Rattle.share_pool.proofs.Refreshes.{catalog_refresh, full_more}
use Rattle.share_pool.proofs.refresh.Refresher.take_records.Goals as goal

pub loop-calls-preserved : goal.loop-calls-preserved
loop-calls-preserved g c =
    let l = c.loop-calls in
    let r = c.refresh_catalog in
    let w = g.W.Store in
    let first = shelved w.objects w.alone w.faults w.stored c.args.store.now in
    let s = shelved w.objects w.alone w.faults w.stored l.store in
    let t = shelved w.objects w.alone w.faults w.stored r.new.store in
    let full = l.invariant.full in record {
      same = idle_more c.args.pass.now l.pass r.new.pass l.invariant.same r.ensures.same;
      full = (
        full.0 ++ hold r.new.pass t ∷ [],
        length_push full.0 (hold r.new.pass t) ∙ ap (λ n. n + 1) full.1,
        full_more (λ (x : RefreshedCatalog). x.found) CatalogRefresh full.0 (hold c.args.pass.now first) (hold l.pass s) (hold r.new.pass t) c.in-Ok.refreshed full.2 c.if-refreshed-lt-FULL.false
            (catalog_refresh l.pass r.new.pass s t (Ok c.in-Ok.refreshed) r.ensures.same c.in-Ok.ensures.entries r.ensures.looked c.in-Ok.ensures.cause r.ensures.stored),
      );
    }
