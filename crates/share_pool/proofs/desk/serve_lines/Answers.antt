use Rattle.std.proofs.Common.{◌||◌, [], ◌∷◌, ◌++◌, ◌∙◌, ap, arith, refl}
use Rattle.hub_calls.proofs.Passes.{idle_more}
use Rattle.share_serve.specs.Sides.{held}
use Rattle.share_pool.specs.Posts.{post}
use Rattle.share_pool.proofs.Attending.{attends}
use Rattle.share_pool.proofs.Working.{attended_more, count_more, lacks_more}
use Rattle.share_pool.proofs.desk.serve_lines.Goals as goal

pub loop-preserved : goal.loop-preserved
loop-preserved g c =
    let l = c.loop in
    let i = l.invariant in
    let s = c.serve_line-lacking in
    let a = c.in-Line.ensures in
    let was = held g.W.Store.objects g.W.Store.alone g.W.Store.faults g.W.Store.stored l.pass l.store in
    let is = held g.W.Store.objects g.W.Store.alone g.W.Store.faults g.W.Store.stored s.new.pass s.new.store in
    let first = post (g.N.Listener.coming c.args.door.now) (g.N.Listener.closed c.args.door.now) (g.C.Clock.coming c.args.clock.now) (held g.W.Store.objects g.W.Store.alone g.W.Store.faults g.W.Store.stored c.args.pass.now c.args.store.now) in
    let here = post (g.N.Listener.coming l.door) (g.N.Listener.closed l.door) (g.C.Clock.coming l.clock) was in
    let there = post (g.N.Listener.coming c.accept.new.self) (g.N.Listener.closed c.accept.new.self) (g.C.Clock.coming l.clock) was in
    let next = post (g.N.Listener.coming s.new.door) (g.N.Listener.closed s.new.door) (g.C.Clock.coming s.new.clock) is in
    let v = s.ensures.serves.0 in record {
      same = idle_more c.args.pass.now l.pass s.new.pass i.same s.ensures.same;
      listens = s.ensures.listens ∙ a.listens ∙ i.listens;
      later = (let x = i.later in let y = a.cause.later in let z = s.ensures.later in omega arith);
      runs = (
        i.runs.0 ++ v ∷ [],
        attended_more c.args.server.now first here next i.runs.0 v i.runs.1 (attends c.args.server.now here there next _ _ _ a.line.0 a.closed refl refl s.ensures.serves),
        count_more i.runs.0 v l.served _ i.runs.2 c.saturating_add-served.ensures,
        lacks_more i.runs.0 v l.lacking _ i.runs.3 (ap (λ b. l.lacking || b) s.ensures.serves.4),
      );
    }
