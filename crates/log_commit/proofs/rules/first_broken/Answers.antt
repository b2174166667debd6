use Rattle.std.proofs.Common.{arith, ◌∙◌, sym}
use Rattle.log_commit.proofs.Known.{knows_more, left_more}
use Rattle.log_commit.proofs.rules.first_broken.Goals as goal

pub loop-i-preserved : goal.loop-i-preserved
loop-i-preserved c =
    let l = c.loop-i.invariant in
    record {
      knows = knows_more c.loop-i.seen c.take_action.new.seen c.args.actions.now c.loop-i.i c.index-actions-i.result (omega arith) c.index-actions-i.is l.knows c.in_ok-fault.ensures.records;
      left = left_more c.args.numbers.now c.args.actions.now c.loop-i.i c.index-actions-i.result c.loop-i.seen c.in_ok-fault.fault _ (omega arith) (omega arith) c.index-actions-i.is l.knows c.in_ok-fault.ensures.fault (sym c.is_some.ensures ∙ c.if-is_some.false) l.left;
    }
