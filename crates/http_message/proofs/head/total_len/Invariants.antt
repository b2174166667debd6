use Rattle.std.proofs.Common.{◌≡◌, ◌-◌, ◌^◌, map, take}
use Rattle.std.specs.Prelude.{min, sum_by}
use Rattle.httparse.specs.Borrowed.{header_parts}
use Rattle.http_message.specs.Fields.{field_len}
use Rattle.http_message.proofs.head.total_len.Given as goal

abbrev pub invariant-loop-header : goal.invariant-loop-header
invariant-loop-header l = l.total ≡ min (sum_by field_len (map header_parts (take l.header-index l.headers))) (2 ^ 64 - 1)
