use Rattle.std.proofs.Common.{◌≡◌, ◌++◌, string_bytes, take}
use Rattle.signed_call.specs.Signing.{names_behind}
use Rattle.signed_call.proofs.canonical.push_names_behind.Given as goal

-- what is written so far
abbrev pub invariant-loop-field : goal.invariant-loop-field
invariant-loop-field l = string_bytes l.out ≡ string_bytes l.fn.out ++ names_behind (take l.field-index l.fields)
