use Rattle.std.proofs.Common.{◌≡◌, refl, sym, ◌∙◌, subst, arith, rules, get_or, ◌-◌}
use Rattle.std.proofs.lemmas.List.{get_or_default}
use Rattle.std.proofs.lemmas.List.Sorted.{all_adjacent_more}
use Rattle.json_tree.specs.declared.pairs.Pair.{Pair}
use Rattle.json_tree.proofs.Order.{Below, IsPairs-from_adjacent, adjacent_from_IsPairs}
use Rattle.json_tree.proofs.pairs.are_pairs.Goals as goal

pub returns-then-not-is_below : goal.returns-then-not-is_below
returns-then-not-is_below c =
    let p : Pair = c.index-items-i.result in
    let q : Pair = c.index-items-i-in-loop-i.result in
    let a : p ≡ get_or c.args.items.now (c.loop-i.i - 1) p = c.index-items-i.is in
    let b : q ≡ get_or c.args.items.now c.loop-i.i q = c.index-items-i-in-loop-i.is in (
      λ t. search rules,
      λ s. c.if-not-is_below.ensures.1 (
          subst (λ (x : Pair). Below x q) (sym a)
          (subst (λ (x : Pair). Below (get_or c.args.items.now (c.loop-i.i - 1) p) x) (sym b)
          (adjacent_from_IsPairs c.args.items.now c.loop-i.i p q (omega arith) (omega arith) s))),
    )

pub loop-i-preserved : goal.loop-i-preserved
loop-i-preserved c =
    let p : Pair = c.index-items-i.result in
    let q : Pair = c.index-items-i-in-loop-i.result in
    let a : p ≡ get_or c.args.items.now (c.loop-i.i - 1) p = c.index-items-i.is in
    let b : q ≡ get_or c.args.items.now c.loop-i.i q = c.index-items-i-in-loop-i.is in
    let below : Below p q = c.if-not-is_below.ensures.0 refl in
    all_adjacent_more c.args.items.now Below c.loop-i.i (omega arith) c.loop-i.invariant (λ d.
    subst (λ (x : Pair). Below x (get_or c.args.items.now c.loop-i.i d))
    (a ∙ get_or_default c.args.items.now (c.loop-i.i - 1) p d (omega arith))
    (subst (λ (x : Pair). Below p x) (b ∙ get_or_default c.args.items.now c.loop-i.i q d (omega arith)) below))

pub returns : goal.returns
returns c = (λ t. IsPairs-from_adjacent c.args.items.now c.loop-i.i (omega arith) c.loop-i.invariant, λ s. search rules)
