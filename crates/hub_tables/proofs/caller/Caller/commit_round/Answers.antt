use Rattle.std.proofs.Common.{Some, Err, ◌∙◌, ap, sym, subst}
use Rattle.hub_tables.specs.declared.commit.CommitRefusal.{CommitRefusal}
use Rattle.hub_tables.specs.declared.table_rounds.LogHead.{LogHead}
use Rattle.hub_tables.specs.CommitRounds.{CommitRounds}
use Rattle.hub_tables.proofs.CommitSteps.{held_same, lacks_next, round_ended, rounds_same}
use Rattle.hub_tables.proofs.CommitStores.{looked_left, round_left}
use Rattle.hub_tables.proofs.caller.Caller.commit_round.Goals as goal

pub own_commit_round-requires-clause-begun : goal.own_commit_round-requires-clause-begun
own_commit_round-requires-clause-begun g c = held_same c.args.pass.now c.next_commit.new.pass c.args.attempt.now.log c.args.head.now c.next_commit.new.head c.in-Absent.ensures.next.0 c.in-Absent.ensures.next.1 c.requires.begun

pub own_commit_round-requires-clause-version : goal.own_commit_round-requires-clause-version
own_commit_round-requires-clause-version g c = c.versions-version.ensures ∙ ap (λ (h : LogHead). h.support.versions) (sym c.in-Absent.ensures.next.1)

pub own_commit_round-requires-clause-absent : goal.own_commit_round-requires-clause-absent
own_commit_round-requires-clause-absent g c = lacks_next c.args.attempt.now.offer.now (g.W.Store.objects c.next_commit.new.store) c.args.pass.now c.next_commit.new.pass c.args.attempt.now.log c.args.head.now c.requires.begun c.in-Absent.ensures.next.0 c.in-Absent.ensures.next.2

pub returns-in-Absent-clause-round : goal.returns-in-Absent-clause-round
returns-in-Absent-clause-round g c =
    rounds_same c.own_commit_round.result c.args.attempt.now.moment c.args.attempt.now.offer.now (g.W.Store.objects c.args.store.now) (g.W.Store.objects c.next_commit.new.store) (g.W.Store.objects c.own_commit_round.new.store) c.args.pass.now c.next_commit.new.pass c.own_commit_round.new.pass
    c.args.attempt.now.log c.args.head.now c.next_commit.new.head c.own_commit_round.new.head c.in-Absent.ensures.next.0 c.next_commit.ensures.looked.grows c.own_commit_round.ensures.round

pub returns-in-Absent-clause-store : goal.returns-in-Absent-clause-store
returns-in-Absent-clause-store g c = round_left c.own_commit_round.result c.args.attempt.now.moment c.args.attempt.now.offer.now c.args.attempt.now.log _ _ _ _ _ _ c.own_commit_round.new.pass c.next_commit.ensures.looked c.own_commit_round.ensures.store

pub returns-in-End-clause-round : goal.returns-in-End-clause-round
returns-in-End-clause-round g c =
    subst (λ (x : CommitRefusal). CommitRounds (Some (Err x)) c.args.attempt.now.moment c.args.attempt.now.offer.now c.args.attempt.now.log c.args.head.now c.next_commit.new.head (g.W.Store.objects c.args.store.now) (g.W.Store.objects c.next_commit.new.store) c.args.pass.now c.next_commit.new.pass) (sym c.refused.ensures)
    (round_ended c.in-End.end c.versions-version.result c.args.attempt.now.moment c.args.attempt.now.offer.now (g.W.Store.objects c.args.store.now) (g.W.Store.objects c.next_commit.new.store) c.args.pass.now c.next_commit.new.pass c.args.attempt.now.log c.args.head.now c.next_commit.new.head c.requires.begun c.versions-version.ensures c.in-End.ensures.next)

pub returns-in-End-clause-store : goal.returns-in-End-clause-store
returns-in-End-clause-store g c = looked_left c.refused.result c.args.attempt.now.moment c.args.attempt.now.offer.now c.args.attempt.now.log _ _ _ _ c.next_commit.new.pass c.next_commit.ensures.looked
