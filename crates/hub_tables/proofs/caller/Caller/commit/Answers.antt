use Rattle.std.proofs.Common.{◌≡◌, ℕ, List, None, Some, inl, refl, subst}
use Rattle.log_store.proofs.Growing.{looked_refl}
use Rattle.share_book.specs.Legal.{log_at}
use Rattle.hub_tables.specs.TableTurns.{FindsLog}
use Rattle.hub_tables.proofs.CommitSteps.{commits_after}
use Rattle.hub_tables.proofs.CommitStores.{leaves_on}
use Rattle.hub_tables.proofs.caller.Caller.commit.Goals as goal

pub returns-in-Some-clause-entries : goal.returns-in-Some-clause-entries
returns-in-Some-clause-entries g c =
    let found : FindsLog (Some c.in-Some.field-0) c.args.offer.now.location c.find_log.new.pass.seen = subst (λ (l : List ℕ). FindsLog (Some c.in-Some.field-0) l c.find_log.new.pass.seen) c.as_str-2.ensures.value c.in-Some.ensures.found in
    commits_after c.commit_log.result c.args.now c.args.offer.now (g.W.Store.objects c.args.store.now) (g.W.Store.objects c.commit_log.new.store) c.in-Some.field-0 c.args.pass.now c.find_log.new.pass c.commit_log.new.pass c.find_log.ensures.same c.commit_log.ensures.same c.find_log.ensures.added found c.commit_log.ensures.began

pub returns-in-Some-clause-store : goal.returns-in-Some-clause-store
returns-in-Some-clause-store g c =
    let found : FindsLog (Some c.in-Some.field-0) c.args.offer.now.location c.find_log.new.pass.seen = subst (λ (l : List ℕ). FindsLog (Some c.in-Some.field-0) l c.find_log.new.pass.seen) c.as_str-2.ensures.value c.in-Some.ensures.found in
    leaves_on c.commit_log.result c.args.now c.args.offer.now (g.W.Store.objects c.args.store.now) (g.W.Store.objects c.commit_log.new.store) (g.W.Store.alone c.args.store.now) (g.W.Store.alone c.commit_log.new.store) c.in-Some.field-0 c.find_log.new.pass c.commit_log.new.pass c.commit_log.ensures.same found c.commit_log.ensures.store

pub returns-in-None-clause-entries : goal.returns-in-None-clause-entries
returns-in-None-clause-entries g c =
    inl (refl, c.find_log.ensures.added, inl (subst (λ (l : List ℕ). log_at c.find_log.new.pass.seen l ≡ None) c.as_str-2.ensures.value c.in-None.ensures.found))

pub returns-in-None-clause-store : goal.returns-in-None-clause-store
returns-in-None-clause-store g c = inl (refl, looked_refl _ _)
