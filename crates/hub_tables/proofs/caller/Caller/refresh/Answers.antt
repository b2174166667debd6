use Rattle.std.proofs.Common.{◌∙◌, List, ℕ, Ok, Some, ap, sym, subst}
use Rattle.std.specs.Prelude.{IfSome}
use Rattle.log_store.specs.Log.{text_at}
use Rattle.hub_tables.specs.TableRounds.{IsThere}
use Rattle.log_store.proofs.Growing.{looked_more}
use Rattle.hub_tables.specs.declared.refresh.Refreshed.{Refreshed}
use Rattle.hub_tables.specs.LogRefreshes.{Refreshes}
use Rattle.hub_tables.specs.TableTurns.{FindsLog}
use Rattle.hub_tables.proofs.RefreshSteps.{free_state, known_absent, refresh_after}
use Rattle.hub_tables.proofs.caller.Caller.refresh.Goals as goal

pub returns-in-Ok-Absent-clause-entries : goal.returns-in-Ok-Absent-clause-entries
returns-in-Ok-Absent-clause-entries g c =
    let found : FindsLog (Some c.in-Some.field-0) c.args.location.now c.find_log.new.pass.seen = subst (λ (l : List ℕ). FindsLog (Some c.in-Some.field-0) l c.find_log.new.pass.seen) c.as_str-2.ensures.value c.in-Some.ensures.found in
    subst (λ (r : Refreshed). Refreshes (Ok r) c.args.location.now (g.W.Store.objects c.args.store.now) (g.W.Store.objects c.has_version.new.store) c.args.pass.now c.find_log.new.pass) (sym c.known-in-Ok-Absent.ensures)
    (known_absent c.in-Some.field-0 c.args.location.now (g.W.Store.objects c.args.store.now) (g.W.Store.objects c.has_version.new.store) c.args.pass.now c.find_log.new.pass found c.find_log.ensures.added c.has_version.ensures.looked.grows (subst (λ r. IfSome (g.W.Store.objects c.has_version.new.store) (λ os. IsThere (text_at c.args.location.now os c.in-Some.field-0.state.kept) r)) (c.in-Ok-Absent.is ∙ ap Ok c.in-Ok-Absent.field-0-is) c.has_version.ensures.there))

pub returns-in-Ok-There-clause-entries : goal.returns-in-Ok-There-clause-entries
returns-in-Ok-There-clause-entries g c =
    let found : FindsLog (Some c.in-Some.field-0) c.args.location.now c.find_log.new.pass.seen = subst (λ (l : List ℕ). FindsLog (Some c.in-Some.field-0) l c.find_log.new.pass.seen) c.as_str-2.ensures.value c.in-Some.ensures.found in
    refresh_after c.refresh_log.result c.args.location.now c.in-Some.field-0 (g.W.Store.objects c.args.store.now) (g.W.Store.objects c.has_version.new.store) (g.W.Store.objects c.refresh_log.new.store) c.args.pass.now c.find_log.new.pass c.refresh_log.new.pass
    c.has_version.ensures.looked.grows c.refresh_log.ensures.looked.grows c.find_log.ensures.same c.refresh_log.ensures.same c.find_log.ensures.added found (free_state c.in-Some.field-0.state.block c.is_some.result c.is_some.ensures c.if-is_some.false) (subst (λ r. IfSome (g.W.Store.objects c.has_version.new.store) (λ os. IsThere (text_at c.args.location.now os c.in-Some.field-0.state.kept) r)) (c.in-Ok-There.is ∙ ap Ok c.in-Ok-There.field-0-is) c.has_version.ensures.there) c.refresh_log.ensures.ran

pub returns-in-Ok-There-clause-store : goal.returns-in-Ok-There-clause-store
returns-in-Ok-There-clause-store g c = looked_more _ _ _ _ _ _ c.has_version.ensures.looked c.refresh_log.ensures.looked
