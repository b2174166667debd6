use Rattle.std.proofs.Common.{subst}
use Rattle.json_print.specs.Lengths.{Counts}
use Rattle.json_print.specs.Tokens.{value_tokens}
use Rattle.json_print.proofs.LengthLemmas.{text_counted}
use Rattle.share_lines.specs.Printing.{line_data}
use Rattle.share_lines.proofs.printing.line_len.Goals as goal

pub returns : goal.returns
returns c =
    let tokens = value_tokens (line_data c.args.line.now) in
    text_counted {at = c.line_object.new.writer} (line_data c.args.line.now) (subst (λ l. Counts l c.line_object.new.writer tokens) c.new-length.ensures c.in-Ok.ensures.written)
