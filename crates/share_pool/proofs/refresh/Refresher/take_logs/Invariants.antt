use Rattle.std.proofs.Common.{take}
use Rattle.hub_calls.specs.Calls.{IsIdle}
use Rattle.share_serve.specs.Sides.{held}
use Rattle.share_pool.specs.Refreshing.{LogRefreshes}
use Rattle.share_pool.proofs.refresh.Refresher.take_logs.Given as goal

abbrev pub invariant-loop-location : goal.invariant-loop-location
invariant-loop-location g l =
    let was = held g.W.Store.objects g.W.Store.alone g.W.Store.faults g.W.Store.stored l.fn.pass l.fn.store in
    let is = held g.W.Store.objects g.W.Store.alone g.W.Store.faults g.W.Store.stored l.pass l.store in record {
      same : IsIdle l.fn.pass l.pass;
      logs : LogRefreshes (take l.location-index l.locations) l.lacked was is;
    }
