use Rattle.std.proofs.Common.{◌∙◌, ap, length, subst}
use Rattle.json_print.specs.Lengths.{Counts, capped}
use Rattle.json_print.specs.Tokens.{value_tokens}
use Rattle.json_print.proofs.LengthLemmas.{text_counted}
use Rattle.share_lines.specs.Parts.{meta_in}
use Rattle.share_lines.specs.Printing.{line_data, line_text}
use Rattle.share_lines.specs.declared.kinds.Line.TheVariants as line
use Rattle.share_lines.proofs.table_lines.meta_len.Goals as goal

pub returns : goal.returns
returns c =
    let printed = line_data (line.MetaData (meta_in c.of_action.result)) in
    text_counted {at = c.meta_line_object.new.writer} printed (subst (λ l. Counts l c.meta_line_object.new.writer (value_tokens printed)) c.new-length.ensures c.in-Ok.ensures)
    ∙ ap (λ m. capped (length (line_text (line.MetaData m)))) c.of_action.ensures
