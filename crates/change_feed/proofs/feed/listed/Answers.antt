use Rattle.change_feed.proofs.StepLemmas.{one_more}
use Rattle.change_feed.proofs.feed.listed.Goals as goal

pub loop-place-preserved : goal.loop-place-preserved
loop-place-preserved c =
    one_more c.args.from c.loop-place.place c.loop-action.action-index c.of_small-version.result c.args.marks.now c.args.commits.now _ c.index-commits-place.result c.deref.result.now c.actions-actions.result.now
    c.has_cdc-rows.result c.loop-place.changes.items c.loop-action.changes.items _ c.loop-place-test.true c.requires.lengths c.index-commits-place.is c.deref.ensures c.actions-actions.ensures.value c.of_small-version.ensures
    c.has_cdc-rows.ensures c.loop-action-test.false c.loop-action.invariant c.loop-place.invariant
