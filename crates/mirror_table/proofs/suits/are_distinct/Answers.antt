use Rattle.std.proofs.Common.{◌∙◌, sym}
use Rattle.mirror_table.proofs.TextLemmas.{distinct_at, seen_at, twice_at}
use Rattle.mirror_table.proofs.suits.are_distinct.Goals as goal

pub returns-then-branch : goal.returns-then-branch
returns-then-branch c =
    sym (twice_at c.args.texts.now c.loop-text.text-index _ _ c.loop-text-test.true (c.in_ok-put.ensures.was ∙ c.loop-text.invariant.seen _) c.if-branch.true)

pub loop-text-preserved : goal.loop-text-preserved
loop-text-preserved c =
    let texts = c.args.texts.now in
    let i = c.loop-text.text-index in
    record {
      seen = λ q. seen_at texts i _ q _ _ c.loop-text-test.true (c.in_ok-put.ensures.put q) (c.loop-text.invariant.seen q);
      distinct = distinct_at texts i _ _ c.loop-text-test.true (c.in_ok-put.ensures.was ∙ c.loop-text.invariant.seen _) c.if-branch.false c.loop-text.invariant.distinct;
    }
