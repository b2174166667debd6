use Rattle.std.proofs.Common.{◌≡◌, ◌≤◌, ◌-◌, ◌^◌, min, length, List}
use Rattle.hub_calls.specs.Calls.{IsIdle}
use Rattle.share_serve.specs.Sides.{held}
use Rattle.share_pool.specs.Posts.{post}
use Rattle.share_pool.specs.Visits.{Attended, Visit, any_lacks}
use Rattle.share_pool.proofs.desk.serve_lines.Given as goal

abbrev pub invariant-loop : goal.invariant-loop
invariant-loop g l =
    let first = post (g.N.Listener.coming l.initial.door) (g.N.Listener.closed l.initial.door) (g.C.Clock.coming l.initial.clock) (held g.W.Store.objects g.W.Store.alone g.W.Store.faults g.W.Store.stored l.initial.pass l.initial.store) in
    let here = post (g.N.Listener.coming l.door) (g.N.Listener.closed l.door) (g.C.Clock.coming l.clock) (held g.W.Store.objects g.W.Store.alone g.W.Store.faults g.W.Store.stored l.pass l.store) in record {
      same : IsIdle l.initial.pass l.pass;
      listens : g.N.Listener.listens l.door ≡ g.N.Listener.listens l.initial.door;
      later : g.N.Listener.faults l.initial.door ≤ g.N.Listener.faults l.door;
      runs : (visits : List Visit) × Attended l.server first visits here × (l.served ≡ min (length visits) (2 ^ 64 - 1)) × (l.lacking ≡ any_lacks visits);
    }
