use Rattle.std.proofs.Common.{◌∙◌, ℕ, List, inl, inr, refl, subst, true}
use Rattle.share_serve.specs.Sides.{hold, shelved}
use Rattle.share_pool.specs.Refreshing.{LogRefreshes}
use Rattle.share_pool.proofs.Refreshes.{all_refreshed}
use Rattle.share_pool.proofs.refresh.Refresher.refresh_all.Goals as goal

pub returns-in-Ok-clause-refreshed : goal.returns-in-Ok-clause-refreshed
returns-in-Ok-clause-refreshed g c =
    let w = g.W.Store in
    let s = shelved w.objects w.alone w.faults w.stored c.args.store.now in
    let t = shelved w.objects w.alone w.faults w.stored c.take_records-lacked.new.store in
    let o = c.locations.new.pass in
    let new = hold c.take_logs.new.pass (shelved w.objects w.alone w.faults w.stored c.take_logs.new.store) in
    let later = c.take_logs.result in
    all_refreshed _ c.take_records-lacked.result c.args.pass.now c.take_records-lacked.new.pass o s t new c.take_records-lacked.ensures.takes c.locations.ensures.same c.locations.ensures.added
    (inl (later, subst (λ (ls : List (List ℕ)). LogRefreshes ls later (hold o t) new) (c.deref.ensures.value ∙ c.in-Ok.ensures.locations) c.take_logs.ensures.logs, refl))

pub returns-in-Err-clause-refreshed : goal.returns-in-Err-clause-refreshed
returns-in-Err-clause-refreshed g c =
    let w = g.W.Store in
    let s = shelved w.objects w.alone w.faults w.stored c.args.store.now in
    let t = shelved w.objects w.alone w.faults w.stored c.take_records-lacked.new.store in
    let o = c.locations.new.pass in
    all_refreshed true c.take_records-lacked.result c.args.pass.now c.take_records-lacked.new.pass o s t (hold o t) c.take_records-lacked.ensures.takes c.locations.ensures.same c.locations.ensures.added (inr (refl, refl))
