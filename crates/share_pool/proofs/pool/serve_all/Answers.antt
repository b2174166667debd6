use Rattle.std.proofs.Common.{codes}
use denote.Param.Send.{sendable}
use mir.Syntax.{named}
use Rattle.std.proofs.Crossing.{crosses}
use Rattle.share_pool.proofs.Crossing.{desk_send, lent_sync}
use Rattle.share_pool.proofs.pool.serve_all.Goals as goal

pub for_each_mut-requires-send-T : goal.for_each_mut-requires-send-T
for_each_mut-requires-send-T g c κs within = search (sendable, crosses, desk_send) depth 40 fits 20000

pub for_each_mut-requires-sync-F : goal.for_each_mut-requires-sync-F
for_each_mut-requires-sync-F g c κs within = record {
  shared = (lent_sync (codes "share_pool::pool::fn::serve_all::work+Self")
      (record { mir = named 6; lft = κs.1.1.1.1.1.1.0 })
      (record { mir = named 7; lft = κs.1.1.1.1.1.1.1.0 })
      (record { mir = named 8; lft = κs.1.1.1.1.1.1.1.1.0 })
      (record { mir = named 9; lft = κs.1.1.1.1.1.1.1.1.1.0 })
      (record { mir = named 10; lft = κs.1.1.1.1.1.1.1.1.1.1.0 })
      _ _ tt tt c.type_bounds.sync-R c.type_bounds.sync-G).shared;
}
