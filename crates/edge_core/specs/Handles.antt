-- Handles of shared objects, and what is put round another object.
use Rattle.std.specs.Prelude.{ℕ, ◌+◌, List, length, drop, Option, Bool, ◌&&◌, nat_le, nat_lt}
use Rattle.edge_core.specs.declared.fault_count.FaultCount.{FaultCount}
use Rattle.edge_core.specs.declared.locked_door.SharedDoor.{SharedDoor}
use Rattle.edge_core.specs.declared.limited.Limited.{Limited}
use Rattle.edge_core.specs.declared.gathering.Gathering.{Gathering}

-- how many faults were counted
abbrev pub fault_count : FaultCount → ℕ
fault_count c = c.count

-- the listener that handles share
abbrev pub shared_listener : {N : Type 0} → SharedDoor N → N
shared_listener s = s.listener

-- the port at which it is open
abbrev pub shared_port : {N : Type 0} → SharedDoor N → Option ℕ
shared_port s = s.port

-- how often it has failed
abbrev pub shared_faults : {N : Type 0} → SharedDoor N → FaultCount
shared_faults s = s.faults

-- the listener that is limited
abbrev pub limited_listener : {N : Type 0} → Limited N → N
limited_listener l = l.listener

-- how many more lines it gives
abbrev pub limited_lines : {N : Type 0} → Limited N → ℕ
limited_lines l = l.lines

-- the sink that bytes are gathered for
abbrev pub inner_sink : {K : Type 0} → Gathering K → K
inner_sink g = g.inner

-- the bytes that are kept, and not handed on
abbrev pub kept_bytes : {K : Type 0} → Gathering K → List ℕ
kept_bytes g = drop g.handed g.kept.items

-- whether so many bytes are kept without a call of the inner sink: they fit behind those that are there, and don't fill
-- the room by themselves
abbrev pub has_room_for : {K : Type 0} → Gathering K → ℕ → Bool
has_room_for g n = nat_le (length g.kept.items + n) 65536 && nat_lt n 65536
