use Rattle.std.proofs.Common.{subst}
use Rattle.json_print.specs.Lengths.{Counts}
use Rattle.json_print.specs.Tokens.{value_tokens}
use Rattle.json_print.proofs.LengthLemmas.{text_counted}
use Rattle.log_actions.specs.Printing.{action_data}
use Rattle.log_actions.proofs.printing.line_len.Goals as goal

pub returns : goal.returns
returns c =
    let tokens = value_tokens (action_data c.args.action.now) in
    text_counted {at = c.action_object.new.line} (action_data c.args.action.now) (subst (λ l. Counts l c.action_object.new.line tokens) c.new-length.ensures c.in-Ok.ensures.written)
