use Rattle.std.proofs.Common.{◌≡◌, ◌+◌, drop}
use Rattle.std.specs.Prelude.{count_by}
use Rattle.http_message.specs.Fields.{is_named}
use Rattle.http_message.proofs.field.count_named.Given as goal

abbrev pub invariant-loop-index : goal.invariant-loop-index
invariant-loop-index l = l.count + count_by (is_named l.name) (drop l.index l.fields) ≡ count_by (is_named l.name) l.fields
