use Rattle.std.proofs.Common.{◌≡◌, ◌++◌, string_bytes, take}
use Rattle.signed_call.specs.Signing.{parameters_behind}
use Rattle.signed_call.proofs.canonical.push_parameters_behind.Given as goal

-- what is written so far
abbrev pub invariant-loop-item : goal.invariant-loop-item
invariant-loop-item l = string_bytes l.out ≡ string_bytes l.fn.out ++ parameters_behind (take l.item-index l.parameters)
