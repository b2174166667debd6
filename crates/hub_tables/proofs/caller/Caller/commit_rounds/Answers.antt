use Rattle.std.proofs.Common.{◌≡◌, ◌<◌, ◌∷◌, ◌++◌, [], ◌∙◌, length, arith, length-append}
use Rattle.log_store.proofs.Growing.{looked_more}
use Rattle.share_book.specs.History.{table_on}
use Rattle.hub_tables.proofs.LogSteps.{found_one, goes_more_on, stored_more}
use Rattle.hub_tables.proofs.TablePasses.{idle_then, is_log_held}
use Rattle.hub_tables.proofs.CommitSteps.{runs_after, runs_contended}
use Rattle.hub_tables.proofs.CommitStores.{left_after, left_grows}
use Rattle.hub_tables.proofs.caller.Caller.commit_rounds.Goals as goal

pub loop-found-preserved : goal.loop-found-preserved
loop-found-preserved g c =
    let i = c.loop-found.invariant in
    let r = c.in-None.ensures.round in
    let l = c.in-None.ensures.store in
    let long = length-append i.found.0 (r.0 ∷ []) in
    let was = i.found.1 in
    record {
      same = idle_then c.args.pass.now c.loop-found.pass c.commit_round.new.pass i.same c.commit_round.ensures.same;
      found = (
        i.found.0 ++ r.0 ∷ [],
        omega arith,
        goes_more_on c.args.pass.now c.loop-found.pass c.commit_round.new.pass c.args.attempt.now.log i.found.0 (r.0 ∷ []) i.same.number i.found.2 r.1,
        stored_more c.args.attempt.now.offer.now.location (g.W.Store.objects c.loop-found.store) (g.W.Store.objects c.commit_round.new.store) (table_on c.args.attempt.now.log c.args.pass.now.seen) (table_on c.args.attempt.now.log c.loop-found.pass.seen) i.found.0 (r.0 ∷ []) l.grows i.found.2.table i.found.3
            (found_one c.args.attempt.now.offer.now.location (g.W.Store.objects c.commit_round.new.store) (table_on c.args.attempt.now.log c.loop-found.pass.seen) r.0 r.3),
      );
      begun = r.2;
      looked = looked_more _ _ _ _ _ _ i.looked l;
      later = (let a = i.later in let b = c.commit_round.ensures.cause.later in omega arith);
      stored = c.in-None.ensures.stored ∙ i.stored;
    }

pub returns-in-Some-clause-store : goal.returns-in-Some-clause-store
returns-in-Some-clause-store g c = left_after c.in-Some.end c.args.attempt.now.moment c.args.attempt.now.offer.now c.args.attempt.now.log _ _ _ _ _ _ c.commit_round.new.pass c.loop-found.invariant.looked c.in-Some.ensures.store

pub returns-in-Some-clause-runs : goal.returns-in-Some-clause-runs
returns-in-Some-clause-runs g c =
    let i = c.loop-found.invariant in
    let n = i.found.1 in
    let few : length i.found.0 < 64 = omega arith in
    runs_after c.in-Some.end c.args.attempt.now.moment c.args.attempt.now.offer.now (g.W.Store.objects c.args.store.now) (g.W.Store.objects c.loop-found.store) (g.W.Store.objects c.commit_round.new.store) c.args.pass.now c.loop-found.pass c.commit_round.new.pass c.args.attempt.now.log c.loop-found.head c.commit_round.new.head
    i.found.0 i.begun i.same.number i.found.2 few i.found.3 i.looked.grows (left_grows c.in-Some.end c.args.attempt.now.moment c.args.attempt.now.offer.now c.args.attempt.now.log _ _ _ _ c.commit_round.new.pass c.in-Some.ensures.store) c.in-Some.ensures.round

pub abort_log-requires-clause-there : goal.abort_log-requires-clause-there
abort_log-requires-clause-there g c = let h = c.loop-found.invariant.begun in is_log_held c.loop-found.pass c.args.attempt.now.log h.log h.holds

pub returns-clause-runs : goal.returns-clause-runs
returns-clause-runs g c =
    let i = c.loop-found.invariant in
    let all : c.loop-found.found ≡ 64 = omega arith in
    runs_contended c.args.attempt.now.moment c.args.attempt.now.offer.now (g.W.Store.objects c.args.store.now) (g.W.Store.objects c.loop-found.store) c.args.pass.now c.loop-found.pass c.abort_log.new.pass c.args.attempt.now.log i.found.0 i.same.number i.found.2 (i.found.1 ∙ all) i.found.3 c.abort_log.ensures.ended
