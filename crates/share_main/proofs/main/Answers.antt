use denote.Param.Send.{sendable}
use Rattle.std.proofs.Crossing.{crosses}
use Rattle.real_store.proofs.Crossing.{store_send}
use Rattle.share_main.proofs.main.Goals as goal

pub run-requires-send-W : goal.run-requires-send-W
run-requires-send-W g c κs = search (sendable, crosses, store_send) depth 40 fits 20000
