use Rattle.std.proofs.Common.{◌≡◌, map, take}
use Rattle.httparse.specs.Borrowed.{header_parts}
use Rattle.http_message.proofs.head.copy_fields.Given as goal

abbrev pub invariant-loop-header : goal.invariant-loop-header
invariant-loop-header l = l.fields ≡ map header_parts (take l.header-index l.headers)
