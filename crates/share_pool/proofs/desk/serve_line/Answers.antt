use Rattle.std.proofs.Common.{◌||◌, ap}
use Rattle.share_serve.specs.Sides.{held}
use Rattle.share_pool.proofs.Attending.{serves}
use Rattle.share_pool.proofs.desk.serve_line.Goals as goal

pub returns-clause-serves : goal.returns-clause-serves
returns-clause-serves g c =
    let r = c.refresh_all-lacked in
    let s = c.serve_conn-end in
    let was = held g.W.Store.objects g.W.Store.alone g.W.Store.faults g.W.Store.stored c.args.pass.now c.args.store.now in
    let mid = held g.W.Store.objects g.W.Store.alone g.W.Store.faults g.W.Store.stored r.new.pass r.new.store in
    let is = held g.W.Store.objects g.W.Store.alone g.W.Store.faults g.W.Store.stored s.new.pass s.new.store in
    serves {coming' = g.N.Listener.coming c.close.new.self} {closed' = g.N.Listener.closed c.close.new.self} _ _ was mid is _ _ _ _ r.result _ s.result _ _ _ _ c.requires.fresh.0 c.requires.fresh.1 r.ensures.refreshed s.ensures.grew s.ensures.cause s.ensures.session c.close.ensures.closed c.close.ensures.coming (ap (λ b. r.result || b) c.is_lack.ensures)
