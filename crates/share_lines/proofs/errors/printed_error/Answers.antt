use Rattle.std.proofs.Common.{◌∙◌}
use Rattle.json_print.proofs.TokenLemmas.{text_written}
use Rattle.share_lines.specs.Errors.{error_data}
use Rattle.share_lines.proofs.errors.printed_error.Goals as goal

pub returns : goal.returns
returns c =
    c.of.ensures ∙ c.printed.ensures.text ∙ text_written (error_data c.args.word.now c.args.message.now) c.in_ok-error_object.ensures c.in_ok-body.ensures.1
