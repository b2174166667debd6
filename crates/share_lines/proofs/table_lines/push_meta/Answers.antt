use Rattle.std.proofs.Common.{◌∙◌, ◌++◌, ◌∷◌, [], ap}
use Rattle.json_print.proofs.TokenLemmas.{text_written}
use Rattle.share_lines.specs.Parts.{meta_in}
use Rattle.share_lines.specs.Printing.{line_data, line_text}
use Rattle.share_lines.specs.declared.kinds.Line.TheVariants as line
use Rattle.share_lines.proofs.TokenLemmas.{put_on}
use Rattle.share_lines.proofs.table_lines.push_meta.Goals as goal

pub returns-clause-line : goal.returns-clause-line
returns-clause-line c =
    let text = text_written (line_data (line.MetaData (meta_in c.of_action.result))) c.in_ok-meta_line_object.ensures c.in_ok-writer.ensures.1
    ∙ ap (λ m. line_text (line.MetaData m)) c.of_action.ensures in
    put_on c.extend_from_slice.result _ _ _ _ c.extend_from_slice.ensures.items
    (c.deref.ensures.value ∙ c.in_ok-text.ensures ∙ ap (λ t. t ++ 10 ∷ []) text)
