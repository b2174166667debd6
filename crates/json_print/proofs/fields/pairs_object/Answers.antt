use Rattle.std.proofs.Common.{◌∷◌, ◌++◌}
use Rattle.json.specs.Token.{key}
use Rattle.json_tree.specs.declared.pairs.Pair.{Pair}
use Rattle.json_print.specs.Tokens.{value_tokens}
use Rattle.json_print.specs.Values.{text_or_null}
use Rattle.json_print.proofs.TokenLemmas.{next, pairs_more}
use Rattle.json_print.proofs.fields.pairs_object.Goals as goal

pub loop-pair-preserved : goal.loop-pair-preserved
loop-pair-preserved g c =
    let p : Pair = c.pair-item.result in
    let done = c.loop-pair.invariant.0 in
    let law = g.met.W.Tokens.then in (
      done ++ key c.as_str.result.now ∷ value_tokens (text_or_null p.value),
      next law c.loop-pair.invariant.1 (next law c.in_ok-key.ensures c.in_ok-text_or_null_value.ensures),
      rw (c.as_str.ensures, c.pair-item.is) (pairs_more c.args.pairs.now c.loop-pair.pair-index p done _ c.loop-pair-test.true c.loop-pair.invariant.2),
    )
