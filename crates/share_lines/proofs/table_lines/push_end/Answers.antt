use Rattle.std.proofs.Common.{◌∙◌, ◌++◌, ◌∷◌, [], ap}
use Rattle.json_print.proofs.TokenLemmas.{text_written}
use Rattle.share_lines.specs.Printing.{line_data}
use Rattle.share_lines.specs.declared.kinds.Line.TheVariants as line
use Rattle.share_lines.proofs.TokenLemmas.{put_on}
use Rattle.share_lines.proofs.table_lines.push_end.Goals as goal

pub returns-clause-line : goal.returns-clause-line
returns-clause-line c =
    let text = text_written (line_data (line.End c.args.end.now)) c.in_ok-end_object.ensures c.in_ok-writer.ensures.1 in
    put_on c.extend_from_slice.result _ _ _ _ c.extend_from_slice.ensures.items
    (c.deref.ensures.value ∙ c.in_ok-text.ensures ∙ ap (λ t. t ++ 10 ∷ []) text)
