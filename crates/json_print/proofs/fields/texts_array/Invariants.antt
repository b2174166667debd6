use Rattle.std.proofs.Common.{◌≡◌, List, ◌++◌, drop}
use Rattle.json.specs.Tree.{items_tokens}
use Rattle.json.specs.Token.{Token}
use Rattle.serde_json.specs.Written.{items_outline}
use Rattle.json_print.specs.Tokens.{value_tokens}
use Rattle.json_print.specs.Values.{text_items, texts_value}
use Rattle.json_print.proofs.fields.texts_array.Given as goal

-- what is still to come makes the whole
abbrev pub invariant-loop-text : goal.invariant-loop-text
invariant-loop-text g l = (done : List Token) × (g.W.Tokens.adds l.fn.writer l.writer done)
    × (done ++ items_tokens (items_outline (text_items (drop l.text-index l.texts))) ≡ value_tokens (texts_value l.texts))
