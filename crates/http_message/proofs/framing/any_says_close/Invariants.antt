use Rattle.std.proofs.Common.{◌≡◌, ◌&&◌, drop}
use Rattle.std.specs.Prelude.{codes}
use Rattle.std.specs.List.{list_any}
use Rattle.http_message.specs.Fields.{is_named, lists_option}
use Rattle.http_message.proofs.framing.any_says_close.Given as goal

abbrev pub invariant-loop-index : goal.invariant-loop-index
invariant-loop-index l =
    list_any (λ field. is_named (codes "connection") field && lists_option (codes "close") field.1) (drop l.index l.fields)
    ≡ list_any (λ field. is_named (codes "connection") field && lists_option (codes "close") field.1) l.fields
