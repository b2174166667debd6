use Rattle.std.proofs.Common.{◌≡◌, ◌≤◌}
use Rattle.edge_core.specs.Handles.{fault_count}
use Rattle.edge_std.proofs.tcp_door.TcpDoorListener.accept.Given as goal

abbrev pub invariant-loop : goal.invariant-loop
invariant-loop l = record {
  later : fault_count l.fn.self.faults ≤ fault_count l.self.faults;
  asked : l.self.asked ≡ l.fn.self.asked;
}
