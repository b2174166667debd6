use Rattle.std.proofs.Common.{◌≡◌, ◌++◌, string_bytes, take}
use Rattle.signed_call.specs.Texts.{field_lines}
use Rattle.signed_call.proofs.head.push_lines.Given as goal

-- what is written so far
abbrev pub invariant-loop-field : goal.invariant-loop-field
invariant-loop-field l = string_bytes l.out ≡ string_bytes l.fn.out ++ field_lines (take l.field-index l.fields)
