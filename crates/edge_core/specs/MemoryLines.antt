-- What the clock, the listener and the link in memory stand for.
use Rattle.std.specs.Prelude.{ℕ, ◌+◌, List, [], ◌∷◌, drop, Option, Some, Bool, false, map, not, ◌&&◌, ◌||◌, nat_eq, bytes_eq, string_bytes, if◌then◌else◌}
use Rattle.edge_core.specs.Calls.{calls_failed, due}
use Rattle.edge_core.specs.Memory.{source_left, source_calls, sink_bytes, sink_calls}
use Rattle.edge_core.specs.Lines.{ClosedLine, closed_line, PeerLine, peer_line}
use Rattle.edge_core.specs.Handles.{fault_count}
use Rattle.edge_core.specs.declared.calls.Calls.{Calls}
use Rattle.edge_core.specs.declared.mem_clock.MemClock.{MemClock}
use Rattle.edge_core.specs.declared.mem_line.MemLine.{MemLine}
use Rattle.edge_core.specs.declared.mem_sink.MemSink.{MemSink}
use Rattle.edge_core.specs.declared.mem_line.MemClosed.{MemClosed}
use Rattle.edge_core.specs.declared.mem_line.GivenLines.{GivenLines}
use Rattle.edge_core.specs.declared.mem_listener.MemListener.{MemListener}
use Rattle.edge_core.specs.declared.mem_link.MemPeer.{MemPeer}
use Rattle.edge_core.specs.declared.mem_link.MemLink.{MemLink}

-- the moments that a clock is still to tell
abbrev pub clock_coming : MemClock → List ℕ
clock_coming c = drop c.at c.moments.items

-- the bytes that a line comes with
abbrev pub line_bytes : MemLine → List ℕ
line_bytes l = source_left l.source

-- the sink of a closed line
abbrev pub closed_sink : MemClosed → MemSink
closed_sink l = l.sink

-- what a closed line says
abbrev pub closed_of : MemClosed → ClosedLine
closed_of l = closed_line (Some (sink_bytes l.sink)) (calls_failed (source_calls l.source)) (calls_failed (sink_calls l.sink))

-- the lines that came back, in order
abbrev pub lines_closed : GivenLines → List ClosedLine
lines_closed g = map closed_of g.closed.items

-- how many lines are out
abbrev pub lines_out : GivenLines → ℕ
lines_out g = g.out

-- for how many more closed lines there is room
abbrev pub lines_room : GivenLines → ℕ
lines_room g = g.room

-- one line more or less is out, or none
abbrev pub more_out : ℕ → Bool → ℕ
more_out out given = if given then out + 1 else out

abbrev pub listener_coming : MemListener → List (List ℕ)
listener_coming d = map line_bytes d.coming.items

abbrev pub listener_closed : MemListener → List ClosedLine
listener_closed d = lines_closed d.given

abbrev pub listener_out : MemListener → ℕ
listener_out d = lines_out d.given

-- the port at which it was opened last
abbrev pub listener_port : MemListener → Option ℕ
listener_port d = d.port

abbrev pub listener_calls : MemListener → Calls
listener_calls d = d.calls

-- what a line to come says
abbrev pub peer_of : MemPeer → PeerLine
peer_of p = peer_line (string_bytes p.host) p.port (line_bytes p.line)

abbrev pub link_coming : MemLink → List PeerLine
link_coming l = map peer_of l.coming.items

abbrev pub link_closed : MemLink → List ClosedLine
link_closed l = lines_closed l.given

abbrev pub link_out : MemLink → ℕ
link_out l = lines_out l.given

abbrev pub link_calls : MemLink → Calls
link_calls l = l.calls

abbrev pub link_read_faults : MemLink → ℕ
link_read_faults l = fault_count l.read_faults

abbrev pub link_write_faults : MemLink → ℕ
link_write_faults l = fault_count l.write_faults

-- whether the next line is to this host and port
abbrev pub is_next : List ℕ → ℕ → List PeerLine → Bool
is_next host port [] = false
is_next host port (p ∷ ps) = bytes_eq p.host host && nat_eq p.port port

-- whether an open fails: the call is to fail, or the next line is to another host or port, or there is none
abbrev pub open_fails : MemLink → List ℕ → ℕ → Bool
open_fails l host port = due (link_calls l) || not (is_next host port (link_coming l))
