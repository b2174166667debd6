use Rattle.std.proofs.Common.{◌+◌, ◌∙◌, ◌∷◌, [], ◌++◌, ap, arith}
use Rattle.std.proofs.lemmas.List.{length_push}
use Rattle.log_store.proofs.Growing.{looked_more}
use Rattle.hub_calls.proofs.Passes.{idle_more}
use Rattle.hub_catalog.proofs.Rounding.{done_after, ends_after, goes_more, steps_more}
use Rattle.hub_catalog.proofs.Storing.{leaves_after, leaves_grow, stored_after}
use Rattle.hub_catalog.proofs.caller.Caller.rounds.Goals as goal

pub loop-turn-preserved : goal.loop-turn-preserved
loop-turn-preserved g c =
    let i = c.loop-turn.invariant in
    let r = c.in-Found.ensures.round in
    let p = c.args.pass.now in
    let q = c.loop-turn.pass in
    let s = c.round.new.pass in
    record {
      same = idle_more p q s i.same c.round.ensures.same;
      found = (i.found.0 ++ r.0 ∷ [], length_push i.found.0 r.0 ∙ ap (λ n. n + 1) i.found.1, goes_more p q s i.found.0 (r.0 ∷ []) i.same.number i.found.2 r.1, steps_more c.loop-turn.number _ _ _ p q i.found.0 r.0 i.begun.count i.found.2 i.found.3 i.looked.grows c.in-Found.ensures.store.grows r.3);
      begun = record { holder = r.1.holder; count = r.2 };
      looked = looked_more _ _ _ _ _ _ i.looked c.in-Found.ensures.store;
      later = (let a = i.later in let b = c.round.ensures.cause.later in omega arith);
      stored = c.in-Found.ensures.stored ∙ i.stored;
    }

pub returns-in-Done-clause-store : goal.returns-in-Done-clause-store
returns-in-Done-clause-store g c = stored_after _ _ _ _ _ _ c.loop-turn.number c.args.edit.now c.loop-turn.invariant.looked c.in-Done.ensures.store

pub returns-in-End-clause-store : goal.returns-in-End-clause-store
returns-in-End-clause-store g c = leaves_after c.in-End.end c.args.edit.now _ _ _ _ _ _ c.round.new.pass c.loop-turn.invariant.looked c.in-End.ensures.store

pub returns-in-Done-clause-run : goal.returns-in-Done-clause-run
returns-in-Done-clause-run g c =
    let i = c.loop-turn.invariant in
    let n = i.found.1 in
    done_after c.args.edit.now c.loop-turn.number _ _ _ c.args.pass.now c.loop-turn.pass c.round.new.pass i.found.0 i.same.number (omega arith) i.found.2 i.found.3 i.looked.grows c.in-Done.ensures.store.grows c.in-Done.ensures.round

pub returns-in-End-clause-run : goal.returns-in-End-clause-run
returns-in-End-clause-run g c =
    let i = c.loop-turn.invariant in
    let n = i.found.1 in
    ends_after c.in-End.end c.args.edit.now c.loop-turn.number _ _ _ c.args.pass.now c.loop-turn.pass c.round.new.pass i.found.0 i.same.number i.begun.count (omega arith) i.found.2 i.found.3 i.looked.grows (leaves_grow c.in-End.end c.args.edit.now _ _ _ _ c.round.new.pass c.in-End.ensures.store) c.in-End.ensures.round
