use Rattle.std.proofs.Common.{◌≡◌, List, ◌++◌, map, drop}
use Rattle.json.specs.Tree.{members_tokens}
use Rattle.json.specs.Token.{Token}
use Rattle.json_tree.specs.Lists.{pair_of}
use Rattle.serde_json.specs.Written.{members_outline}
use Rattle.json_print.specs.Tokens.{value_tokens}
use Rattle.json_print.specs.Values.{pair_members, pairs_value}
use Rattle.json_print.proofs.fields.pairs_object.Given as goal

-- what is still to come makes the whole
abbrev pub invariant-loop-pair : goal.invariant-loop-pair
invariant-loop-pair g l = (done : List Token) × (g.W.Tokens.adds l.fn.writer l.writer done)
    × (done ++ members_tokens (members_outline (pair_members (map pair_of (drop l.pair-index l.pairs)))) ≡ value_tokens (pairs_value (map pair_of l.pairs)))
