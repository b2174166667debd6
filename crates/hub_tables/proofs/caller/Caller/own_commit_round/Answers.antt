use Rattle.std.proofs.Common.{None, Some, Err, refl, sym, subst}
use Rattle.log_store.proofs.Growing.{looked_more, looked_refl}
use Rattle.hub_tables.specs.declared.commit.CommitRefusal.{CommitRefusal}
use Rattle.hub_tables.specs.CommitRounds.{CommitRounds, refused_by}
use Rattle.hub_tables.proofs.CommitSteps.{admitted_still, again_round, done_round, fault_round, fits_there, held_same, held_still, limit_round, refused_round, round_ended, wanting_round}
use Rattle.hub_tables.proofs.CommitStores.{ended_left, fault_left, looked_left, own_left}
use Rattle.hub_tables.proofs.caller.Caller.own_commit_round.Goals as goal

pub admit_next-requires-clause-begun : goal.admit_next-requires-clause-begun
admit_next-requires-clause-begun g c = (c.args.head.now, c.requires.begun)

pub end_commit-requires-clause-begun : goal.end_commit-requires-clause-begun
end_commit-requires-clause-begun g c = (c.args.head.now, held_still c.args.pass.now c.admit_next.new.pass c.args.attempt.now.log c.args.head.now c.requires.begun c.admit_next.ensures.goes)

pub place-requires-clause-begun : goal.place-requires-clause-begun
place-requires-clause-begun g c = held_still c.args.pass.now c.admit_next.new.pass c.args.attempt.now.log c.args.head.now c.requires.begun c.admit_next.ensures.goes

pub place-requires-clause-fits : goal.place-requires-clause-fits
place-requires-clause-fits g c = fits_there c.args.attempt.now.moment c.args.attempt.now.offer.now c.args.pass.now c.admit_next.new.pass c.args.attempt.now.log c.in-Ok.commit c.admit_next.ensures.goes c.in-Ok.ensures.told

pub returns-in-Done-clause-round : goal.returns-in-Done-clause-round
returns-in-Done-clause-round g c =
    done_round c.args.version c.args.attempt.now.moment c.args.attempt.now.offer.now (g.W.Store.objects c.args.store.now) (g.W.Store.objects c.place.new.store) c.args.pass.now c.admit_next.new.pass c.place.new.pass c.args.attempt.now.log c.args.head.now c.args.head.now c.in-Ok.commit
    c.requires.begun c.admit_next.ensures.same.number c.admit_next.ensures.goes c.requires.version c.in-Ok.ensures.told c.in-Done.ensures.placed.0

pub returns-in-Done-clause-store : goal.returns-in-Done-clause-store
returns-in-Done-clause-store g c =
    own_left c.args.attempt.now.moment c.args.attempt.now.offer.now c.args.attempt.now.log c.args.head.now c.args.version _ _ _ _ c.admit_next.new.pass c.place.new.pass c.in-Ok.commit c.requires.version c.place.ensures.same.number c.in-Done.ensures.placed c.in-Done.ensures.store

pub returns-in-Limit-clause-round : goal.returns-in-Limit-clause-round
returns-in-Limit-clause-round g c =
    limit_round c.args.attempt.now.moment c.args.attempt.now.offer.now (g.W.Store.objects c.args.store.now) (g.W.Store.objects c.place.new.store) c.args.pass.now c.admit_next.new.pass c.place.new.pass c.args.attempt.now.log c.args.head.now c.args.head.now c.in-Ok.commit
    c.requires.begun c.admit_next.ensures.same.number c.admit_next.ensures.goes c.in-Ok.ensures.told c.requires.absent c.in-Limit.ensures.placed.1 c.in-Limit.ensures.placed.0

pub returns-in-StoreFault-clause-round : goal.returns-in-StoreFault-clause-round
returns-in-StoreFault-clause-round g c =
    fault_round c.args.attempt.now.moment c.args.attempt.now.offer.now (g.W.Store.objects c.args.store.now) (g.W.Store.objects c.place.new.store) c.args.pass.now c.admit_next.new.pass c.place.new.pass c.args.attempt.now.log c.args.head.now c.args.head.now
    c.requires.begun c.admit_next.ensures.same.number c.admit_next.ensures.goes c.in-StoreFault.ensures.placed

pub returns-in-StoreFault-clause-store : goal.returns-in-StoreFault-clause-store
returns-in-StoreFault-clause-store g c =
    fault_left c.args.attempt.now.moment c.args.attempt.now.offer.now c.args.attempt.now.log c.args.head.now _ _ _ _ c.admit_next.new.pass c.place.new.pass c.in-Ok.commit (held_still c.args.pass.now c.admit_next.new.pass c.args.attempt.now.log c.args.head.now c.requires.begun c.admit_next.ensures.goes)
    (admitted_still c.args.attempt.now.moment c.args.attempt.now.offer.now c.args.pass.now c.admit_next.new.pass c.args.attempt.now.log c.in-Ok.commit c.admit_next.ensures.goes c.in-Ok.ensures.told) c.in-StoreFault.ensures.placed c.in-StoreFault.ensures.store

pub returns-in-NoMemory-clause-round : goal.returns-in-NoMemory-clause-round
returns-in-NoMemory-clause-round g c =
    wanting_round _ c.args.attempt.now.moment c.args.attempt.now.offer.now (g.W.Store.objects c.args.store.now) (g.W.Store.objects c.place.new.store) c.args.pass.now c.admit_next.new.pass c.place.new.pass c.args.attempt.now.log c.args.head.now c.args.head.now
    refl c.requires.begun c.admit_next.ensures.same.number c.admit_next.ensures.goes c.in-NoMemory.ensures.placed

pub again_on_log-requires-clause-begun : goal.again_on_log-requires-clause-begun
again_on_log-requires-clause-begun g c =
    held_same c.admit_next.new.pass c.place.new.pass c.args.attempt.now.log c.args.head.now c.args.head.now c.in-Exists.ensures.placed refl (held_still c.args.pass.now c.admit_next.new.pass c.args.attempt.now.log c.args.head.now c.requires.begun c.admit_next.ensures.goes)

pub returns-in-None-clause-round : goal.returns-in-None-clause-round
returns-in-None-clause-round g c =
    again_round None c.args.attempt.now.moment c.args.attempt.now.offer.now (g.W.Store.objects c.args.store.now) (g.W.Store.objects c.place.new.store) (g.W.Store.objects c.again_on_log.new.store) c.args.pass.now c.admit_next.new.pass c.place.new.pass c.again_on_log.new.pass c.args.attempt.now.log c.args.head.now c.again_on_log.new.head
    c.in-Exists.ensures.placed c.admit_next.ensures.same.number c.admit_next.ensures.goes c.in-Exists.ensures.store.0.grows c.in-None.ensures.next

pub returns-in-None-clause-store : goal.returns-in-None-clause-store
returns-in-None-clause-store g c = looked_more _ _ _ _ _ _ c.in-Exists.ensures.store.0 c.again_on_log.ensures.looked

pub returns-in-Some-clause-round : goal.returns-in-Some-clause-round
returns-in-Some-clause-round g c =
    let x = held_same c.admit_next.new.pass c.place.new.pass c.args.attempt.now.log c.args.head.now c.args.head.now c.in-Exists.ensures.placed refl (held_still c.args.pass.now c.admit_next.new.pass c.args.attempt.now.log c.args.head.now c.requires.begun c.admit_next.ensures.goes) in
    subst (λ (y : CommitRefusal). CommitRounds (Some (Err y)) c.args.attempt.now.moment c.args.attempt.now.offer.now c.args.attempt.now.log c.args.head.now c.again_on_log.new.head (g.W.Store.objects c.args.store.now) (g.W.Store.objects c.again_on_log.new.store) c.args.pass.now c.again_on_log.new.pass) (sym c.refused.ensures)
    (again_round (Some (Err (refused_by c.in-Some.end c.args.version))) c.args.attempt.now.moment c.args.attempt.now.offer.now (g.W.Store.objects c.args.store.now) (g.W.Store.objects c.place.new.store) (g.W.Store.objects c.again_on_log.new.store) c.args.pass.now c.admit_next.new.pass c.place.new.pass c.again_on_log.new.pass c.args.attempt.now.log c.args.head.now c.again_on_log.new.head
    c.in-Exists.ensures.placed c.admit_next.ensures.same.number c.admit_next.ensures.goes c.in-Exists.ensures.store.0.grows
    (round_ended c.in-Some.end c.args.version c.args.attempt.now.moment c.args.attempt.now.offer.now (g.W.Store.objects c.place.new.store) (g.W.Store.objects c.again_on_log.new.store) c.place.new.pass c.again_on_log.new.pass c.args.attempt.now.log c.args.head.now c.again_on_log.new.head x c.requires.version c.in-Some.ensures.next))

pub returns-in-Some-clause-store : goal.returns-in-Some-clause-store
returns-in-Some-clause-store g c = looked_left c.refused.result c.args.attempt.now.moment c.args.attempt.now.offer.now c.args.attempt.now.log _ _ _ _ c.again_on_log.new.pass (looked_more _ _ _ _ _ _ c.in-Exists.ensures.store.0 c.again_on_log.ensures.looked)

pub returns-in-Err-clause-round : goal.returns-in-Err-clause-round
returns-in-Err-clause-round g c =
    refused_round c.in-Err.refused c.turned_down.result c.end_commit.result c.args.attempt.now.moment c.args.attempt.now.offer.now (g.W.Store.objects c.args.store.now) (g.W.Store.objects c.args.store.now) c.args.pass.now c.admit_next.new.pass c.end_commit.new.pass c.args.attempt.now.log c.args.head.now c.args.head.now
    c.end_commit.ensures.told c.turned_down.ensures c.requires.begun c.admit_next.ensures.same.number c.admit_next.ensures.goes c.in-Err.ensures.told c.requires.absent c.end_commit.ensures.ended

pub returns-in-Err-clause-store : goal.returns-in-Err-clause-store
returns-in-Err-clause-store g c = ended_left c.end_commit.result c.turned_down.result c.args.attempt.now.moment c.args.attempt.now.offer.now c.args.attempt.now.log _ _ _ _ c.end_commit.new.pass c.end_commit.ensures.told (looked_refl _ _)
