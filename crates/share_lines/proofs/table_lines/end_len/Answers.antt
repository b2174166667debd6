use Rattle.std.proofs.Common.{subst}
use Rattle.json_print.specs.Lengths.{Counts}
use Rattle.json_print.specs.Tokens.{value_tokens}
use Rattle.json_print.proofs.LengthLemmas.{text_counted}
use Rattle.share_lines.specs.Printing.{line_data}
use Rattle.share_lines.specs.declared.kinds.Line.TheVariants as line
use Rattle.share_lines.proofs.table_lines.end_len.Goals as goal

pub returns : goal.returns
returns c =
    let printed = line_data (line.End c.args.end.now) in
    text_counted {at = c.end_object.new.writer} printed (subst (λ l. Counts l c.end_object.new.writer (value_tokens printed)) c.new-length.ensures c.in-Ok.ensures)
