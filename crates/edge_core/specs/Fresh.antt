-- Sources and sinks in memory that nobody has used.
use Rattle.std.specs.Prelude.{◌≡◌, []}
use Rattle.edge_core.specs.Calls.{calls_failed}
use Rattle.edge_core.specs.Memory.{source_calls, sink_bytes, sink_calls}
use Rattle.edge_core.specs.declared.mem_source.MemSource.{MemSource}
use Rattle.edge_core.specs.declared.mem_sink.MemSink.{MemSink}

-- neither has failed, and nothing was written
pub record IsFreshLine (source : MemSource) (sink : MemSink) : Type 0 where
  pub read_faults : calls_failed (source_calls source) ≡ 0
  pub write_faults : calls_failed (sink_calls sink) ≡ 0
  pub empty : sink_bytes sink ≡ []
