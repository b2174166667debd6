use Rattle.hub_calls.proofs.Passes.{idle_more}
use Rattle.share_serve.specs.Sides.{hold, shelved}
use Rattle.share_pool.proofs.Refreshes.{logs_more}
use Rattle.share_pool.proofs.refresh.Refresher.take_logs.Goals as goal

pub loop-location-preserved : goal.loop-location-preserved
loop-location-preserved g c =
    let l = c.loop-location in
    let r = c.take_commits-lacked in
    let w = g.W.Store in
    let first = shelved w.objects w.alone w.faults w.stored c.args.store.now in
    let s = shelved w.objects w.alone w.faults w.stored l.store in
    let t = shelved w.objects w.alone w.faults w.stored r.new.store in
    let x = c.location-item.result in record {
      same = idle_more c.args.pass.now l.pass r.new.pass l.invariant.same r.ensures.same;
      logs = logs_more c.args.locations.now l.location-index x l.lacked r.result (hold c.args.pass.now first) (hold l.pass s) (hold r.new.pass t) c.loop-location-test.true c.location-item.is l.invariant.logs r.ensures.takes;
    }
