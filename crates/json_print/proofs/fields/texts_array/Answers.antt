use Rattle.std.proofs.Common.{◌∷◌, [], ◌++◌, ◌∙◌}
use Rattle.json.specs.Token.{string}
use Rattle.json_print.proofs.TokenLemmas.{next, texts_more}
use Rattle.json_print.proofs.fields.texts_array.Goals as goal

pub loop-text-preserved : goal.loop-text-preserved
loop-text-preserved g c =
    let done = c.loop-text.invariant.0 in
    let is = c.as_str.ensures ∙ c.text-item.is in (
      done ++ string c.as_str.result.now ∷ [],
      next g.met.W.Tokens.then c.loop-text.invariant.1 c.in_ok-string.ensures,
      rw is (texts_more c.args.texts.now c.loop-text.text-index c.text-item.result done _ c.loop-text-test.true c.loop-text.invariant.2),
    )
