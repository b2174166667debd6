use Rattle.std.proofs.Common.{◌+◌, ◌∙◌, ◌∷◌, [], ◌++◌, ap, arith}
use Rattle.std.proofs.lemmas.List.{length_push}
use Rattle.log_store.proofs.Growing.{looked_more}
use Rattle.hub_calls.proofs.Passes.{idle_more}
use Rattle.hub_catalog.proofs.Rounding.{goes_more, steps_more}
use Rattle.hub_catalog.proofs.Refreshing.{refresh_done, refresh_ends}
use Rattle.hub_catalog.proofs.caller.Caller.refresh_on.Goals as goal

pub loop-turn-preserved : goal.loop-turn-preserved
loop-turn-preserved g c =
    let i = c.loop-turn.invariant in
    let r = c.in-Found.ensures.next in
    let p = c.args.pass.now in
    let q = c.loop-turn.pass in
    let s = c.next_record.new.pass in
    let l = c.next_record.ensures.looked in
    record {
      same = idle_more p q s i.same c.next_record.ensures.same;
      found = (i.found.0 ++ r.0 ∷ [], length_push i.found.0 r.0 ∙ ap (λ n. n + 1) i.found.1, goes_more p q s i.found.0 (r.0 ∷ []) i.same.number i.found.2 r.1, steps_more c.loop-turn.number _ _ _ p q i.found.0 r.0 i.begun.count i.found.2 i.found.3 i.looked.grows l.grows r.3);
      begun = record { holder = r.1.holder; count = r.2 };
      looked = looked_more _ _ _ _ _ _ i.looked l;
      later = (let a = i.later in let b = c.next_record.ensures.cause.later in omega arith);
      stored = c.next_record.ensures.stored ∙ i.stored;
    }

pub returns-in-End-clause-run : goal.returns-in-End-clause-run
returns-in-End-clause-run g c =
    let i = c.loop-turn.invariant in
    let n = i.found.1 in
    refresh_ends c.in-End.refusal c.loop-turn.number _ _ _ c.args.pass.now c.loop-turn.pass c.next_record.new.pass i.found.0 i.same.number i.begun.count (omega arith) i.found.2 i.found.3 i.looked.grows c.next_record.ensures.looked.grows c.in-End.ensures.next

pub returns-in-Absent-clause-run : goal.returns-in-Absent-clause-run
returns-in-Absent-clause-run g c =
    let i = c.loop-turn.invariant in
    let n = i.found.1 in
    refresh_done c.loop-turn.number c.loop-turn.turn _ _ _ c.args.pass.now c.loop-turn.pass c.next_record.new.pass c.abort.new.pass i.found.0 c.in-Absent.ensures.next.0 i.same.number c.abort.ensures.same.number i.begun.count n (omega arith) i.found.2 i.found.3 c.next_record.ensures.looked.grows (λ l. c.in-Absent.ensures.next.1) c.abort.ensures.ended
