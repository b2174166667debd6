use Rattle.std.proofs.Common.{◌∙◌, ap}
use Rattle.json_print.proofs.TokenLemmas.{text_written}
use Rattle.share_lines.specs.Parts.{meta_in}
use Rattle.share_lines.specs.Printing.{line_data, line_text}
use Rattle.share_lines.specs.declared.kinds.Line.TheVariants as line
use Rattle.share_lines.proofs.table_lines.meta_text.Goals as goal

pub returns : goal.returns
returns c =
    c.of.ensures ∙ c.printed.ensures.text ∙ text_written (line_data (line.MetaData (meta_in c.of_line.result))) c.in_ok-meta_line_object.ensures c.in_ok-writer.ensures.1
    ∙ ap (λ m. line_text (line.MetaData m)) c.of_line.ensures
