use Rattle.std.proofs.Common.{◌≡◌, drop}
use Rattle.http_message.specs.Fields.{first_named}
use Rattle.http_message.proofs.field.first_named.Given as goal

abbrev pub invariant-loop-index : goal.invariant-loop-index
invariant-loop-index l = first_named l.name (drop l.index l.fields) ≡ first_named l.name l.fields
