use Rattle.std.proofs.Common.{◌≡◌, ◌<◌, ◌∷◌, ◌++◌, [], ◌∙◌, length, sym, subst, arith, length-append}
use Rattle.edge_core.proofs.Growth.{Grows-itself}
use Rattle.log_store.proofs.Growing.{looked_more}
use Rattle.share_book.specs.History.{table_on}
use Rattle.hub_calls.specs.Calls.{P}
use Rattle.hub_tables.specs.RefreshRounds.{RefreshRuns}
use Rattle.hub_tables.specs.TableCalls.{StopsOn}
use Rattle.hub_tables.specs.TableRounds.{HoldsHead}
use Rattle.hub_tables.proofs.LogSteps.{found_one, goes_more_on, stored_more}
use Rattle.hub_tables.proofs.TablePasses.{idle_then, is_log_held}
use Rattle.hub_tables.proofs.RefreshSteps.{done_refresh, ends_refresh, lacks_before}
use Rattle.hub_tables.proofs.caller.Caller.refresh_rounds.Goals as goal

pub abort_log-requires-clause-there : goal.abort_log-requires-clause-there
abort_log-requires-clause-there g c =
    let b = c.loop-found.invariant.begun in
    let h : HoldsHead c.next_commit.new.pass c.args.stored.now.log c.loop-found.head = subst (λ (q : P). HoldsHead q c.args.stored.now.log c.loop-found.head) (sym c.in-Absent.ensures.next.0) b in
    is_log_held c.next_commit.new.pass c.args.stored.now.log h.log h.holds

pub returns-in-Absent-clause-looked : goal.returns-in-Absent-clause-looked
returns-in-Absent-clause-looked g c = looked_more _ _ _ _ _ _ c.loop-found.invariant.looked c.next_commit.ensures.looked

pub returns-in-End-clause-looked : goal.returns-in-End-clause-looked
returns-in-End-clause-looked g c = looked_more _ _ _ _ _ _ c.loop-found.invariant.looked c.next_commit.ensures.looked

pub returns-in-Absent-clause-runs : goal.returns-in-Absent-clause-runs
returns-in-Absent-clause-runs g c =
    let i = c.loop-found.invariant in
    let same = c.in-Absent.ensures.next.0 in
    let s : StopsOn c.loop-found.pass c.abort_log.new.pass c.args.stored.now.log [] _ = subst (λ (q : P). StopsOn q c.abort_log.new.pass c.args.stored.now.log [] _) same c.abort_log.ensures.ended in
    let most : c.loop-found.found < 64 = omega arith in
    let looked = looked_more _ _ _ _ _ _ i.looked c.next_commit.ensures.looked in
    done_refresh c.args.stored.now.location.now c.args.stored.now.log c.loop-found.head (g.W.Store.objects c.args.store.now) (g.W.Store.objects c.loop-found.store) (g.W.Store.objects c.next_commit.new.store) c.args.pass.now c.loop-found.pass c.abort_log.new.pass
    i.found.0 c.loop-found.found c.versions-kept.result i.begun i.same.number i.found.2 i.found.1 (omega arith) i.found.3 c.next_commit.ensures.looked.grows c.versions-kept.ensures s
    (λ l. lacks_before c.args.stored.now.location.now (g.W.Store.objects c.args.store.now) (g.W.Store.objects c.next_commit.new.store) c.loop-found.head.support.versions c.versions-kept.result looked.grows c.versions-kept.ensures c.in-Absent.ensures.next.2)

pub returns-in-End-clause-runs : goal.returns-in-End-clause-runs
returns-in-End-clause-runs g c =
    let i = c.loop-found.invariant in
    let most : c.loop-found.found < 64 = omega arith in
    subst (λ r. RefreshRuns r c.args.stored.now.location.now c.args.stored.now.log (g.W.Store.objects c.args.store.now) (g.W.Store.objects c.next_commit.new.store) c.args.pass.now c.next_commit.new.pass) (sym c.ended.ensures)
    (ends_refresh c.in-End.end c.args.stored.now.location.now c.args.stored.now.log c.loop-found.head c.next_commit.new.head (g.W.Store.objects c.args.store.now) (g.W.Store.objects c.loop-found.store) (g.W.Store.objects c.next_commit.new.store) c.args.pass.now c.loop-found.pass c.next_commit.new.pass
    i.found.0 c.loop-found.found c.versions-kept.result i.begun i.same.number i.found.2 i.found.1 most i.found.3 c.next_commit.ensures.looked.grows c.versions-kept.ensures c.in-End.ensures.next)

pub loop-found-preserved : goal.loop-found-preserved
loop-found-preserved g c =
    let i = c.loop-found.invariant in
    let r = c.in-Found.ensures.next in
    let long = length-append i.found.0 (r.0 ∷ []) in
    let was = i.found.1 in
    record {
      same = idle_then c.args.pass.now c.loop-found.pass c.next_commit.new.pass i.same c.next_commit.ensures.same;
      found = (
        i.found.0 ++ r.0 ∷ [],
        omega arith,
        goes_more_on c.args.pass.now c.loop-found.pass c.next_commit.new.pass c.args.stored.now.log i.found.0 (r.0 ∷ []) i.same.number i.found.2 r.1,
        stored_more c.args.stored.now.location.now (g.W.Store.objects c.loop-found.store) (g.W.Store.objects c.next_commit.new.store) (table_on c.args.stored.now.log c.args.pass.now.seen) (table_on c.args.stored.now.log c.loop-found.pass.seen) i.found.0 (r.0 ∷ []) c.next_commit.ensures.looked.grows i.found.2.table i.found.3
            (found_one c.args.stored.now.location.now (g.W.Store.objects c.next_commit.new.store) (table_on c.args.stored.now.log c.loop-found.pass.seen) r.0 r.3),
      );
      begun = r.2;
      looked = looked_more _ _ _ _ _ _ i.looked c.next_commit.ensures.looked;
      later = (let a = i.later in let b = c.next_commit.ensures.cause.later in omega arith);
      stored = c.next_commit.ensures.stored ∙ i.stored;
    }

pub abort_log-requires-2-clause-there : goal.abort_log-requires-2-clause-there
abort_log-requires-2-clause-there g c = let h = c.loop-found.invariant.begun in is_log_held c.loop-found.pass c.args.stored.now.log h.log h.holds

pub returns-clause-runs : goal.returns-clause-runs
returns-clause-runs g c =
    let i = c.loop-found.invariant in
    let all : c.loop-found.found ≡ 64 = omega arith in
    let count : length i.found.0 ≡ 64 = i.found.1 ∙ all in
    done_refresh c.args.stored.now.location.now c.args.stored.now.log c.loop-found.head (g.W.Store.objects c.args.store.now) (g.W.Store.objects c.loop-found.store) (g.W.Store.objects c.loop-found.store) c.args.pass.now c.loop-found.pass c.abort_log-2.new.pass
    i.found.0 64 c.versions.result i.begun i.same.number i.found.2 count (omega arith) i.found.3 (Grows-itself _) c.versions.ensures c.abort_log-2.ensures.ended (λ l. absurd (omega (arith, l)))
