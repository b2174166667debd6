use Rattle.std.proofs.Common.{ap, ◌∙◌, length}
use Rattle.log_replay.proofs.StartLemmas.{starts_more}
use Rattle.log_replay.proofs.places.starts.Goals as goal

pub loop-part-preserved : goal.loop-part-preserved
loop-part-preserved c =
    let more = starts_more c.args.parts.now c.loop-part.part-index c.part-item.result c.loop-part.starts.items c.push.new.self.items c.loop-part.len c.len-len.result c.loop-part-test.true c.part-item.is c.requires.sized
    c.loop-part.invariant.starts c.loop-part.invariant.len c.loop-part.invariant.most (c.len-len.ensures ∙ ap length c.deref.ensures) c.in_ok-push.ensures.items in
    record { starts = more.0; len = more.1; most = more.2 }
