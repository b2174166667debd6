use Rattle.std.proofs.Common.{◌≡◌, List, ◌++◌, drop}
use Rattle.json.specs.Tree.{items_tokens}
use Rattle.json.specs.Token.{Token}
use Rattle.serde_json.specs.Data.{array}
use Rattle.serde_json.specs.Written.{items_outline}
use Rattle.json_print.specs.Tokens.{Adds, value_tokens}
use Rattle.share_reply.specs.Bodies.{name_items}
use Rattle.share_reply.specs.Walks.{texts}
use Rattle.share_reply.proofs.listing_text.names_array.Given as goal

-- what is still to come makes the whole
abbrev pub invariant-loop-name : goal.invariant-loop-name
invariant-loop-name l = (done : List Token) × (Adds l.fn.body l.body done)
    × (done ++ items_tokens (items_outline (name_items l.kind l.share l.schema (texts (drop l.name-index l.names)))) ≡ value_tokens (array (name_items l.kind l.share l.schema (texts l.names))))
