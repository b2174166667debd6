use Rattle.std.proofs.Common.{◌≡◌, ◌+◌, ◌*◌, ◌≤◌, length, drop}
use Rattle.std.specs.List.{flat_map}
use Rattle.text_forms.specs.Escape.{escaped_byte}
use Rattle.share_reply.proofs.lengths.escaped_len.Given as goal

abbrev pub invariant-loop-byte : goal.invariant-loop-byte
invariant-loop-byte l = record {
  few : l.bytes ≤ 3 * l.byte-index;
  counted : l.bytes + length (flat_map escaped_byte (drop l.byte-index l.path)) ≡ length (flat_map escaped_byte l.path);
}
