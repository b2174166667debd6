use denote.Param.Send.{sendable}
use Rattle.std.proofs.Crossing.{crosses}
use Rattle.step_count.proofs.Count.TheLaws.TheKnot as count
use Rattle.share_pool.specs.Desks.{HasPass}
use Rattle.caller_tests.proofs.Pushed.{all_two}
use Rattle.caller_tests.proofs.workers.end_at.Goals as goal

pub serve_all-requires-send-W : goal.serve_all-requires-send-W
serve_all-requires-send-W g c κs within = search (sendable, crosses, count.send-Count) depth 40 fits 20000

pub serve_all-requires-clause-ready : goal.serve_all-requires-clause-ready
serve_all-requires-clause-ready g c k d =
    rw c.as_mut_slice.ensures.value (all_two (λ d. HasPass c.args.hub.now d.pass) c.args.desks.items c.push_reserved.new.self.items c.push_reserved-2.new.self.items _ _ c.requires.empty c.push_reserved.ensures.items c.push_reserved-2.ensures.items (rw c.in_ok-desk.ensures c.requires.first) (rw c.in_ok-desk-2.ensures c.requires.second))
