use Rattle.std.proofs.Common.{◌≡◌, ◌+◌, ◌*◌, ◌≤◌, length, drop}
use Rattle.json.specs.Print.{escape}
use Rattle.json_print.proofs.lengths.escaped_len.Given as goal

abbrev pub invariant-loop-byte : goal.invariant-loop-byte
invariant-loop-byte l = record {
  few : l.extra ≤ 5 * l.byte-index;
  counted : l.byte-index + l.extra + length (escape (drop l.byte-index l.bytes)) ≡ length (escape l.bytes);
}
