use Rattle.std.proofs.Common.{subst}
use Rattle.json_print.specs.Lengths.{Counts}
use Rattle.json_print.specs.Tokens.{value_tokens}
use Rattle.json_print.proofs.LengthLemmas.{text_counted}
use Rattle.delta_lines.specs.Delta.{delta_line_data}
use Rattle.delta_lines.specs.Parts.{line_in}
use Rattle.delta_lines.proofs.printing.len_of.Goals as goal

pub returns : goal.returns
returns c =
    let printed = delta_line_data (line_in c.args.line) in
    text_counted {at = c.line_object.new.out} printed (subst (λ l. Counts l c.line_object.new.out (value_tokens printed)) c.new-length.ensures c.in-Ok.ensures.written)
