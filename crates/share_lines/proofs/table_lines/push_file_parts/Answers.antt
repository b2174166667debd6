use Rattle.std.proofs.Common.{◌∙◌, ◌++◌, ◌∷◌, [], ap}
use Rattle.serde_json.specs.Written.{compact_text}
use Rattle.json_print.proofs.TokenLemmas.{text_written}
use Rattle.share_lines.specs.Parts.{file_data, file_in}
use Rattle.share_lines.proofs.PartLemmas.{of_kind}
use Rattle.share_lines.proofs.TokenLemmas.{put_on}
use Rattle.share_lines.proofs.table_lines.push_file_parts.Goals as goal

pub returns-clause-line : goal.returns-clause-line
returns-clause-line c =
    let text = text_written (file_data c.args.kind (file_in c.args.file.now)) c.in_ok-kind_object.ensures c.in_ok-writer.ensures.1
    ∙ ap compact_text (of_kind c.args.kind (file_in c.args.file.now)) in
    put_on c.extend_from_slice.result _ _ _ _ c.extend_from_slice.ensures.items
    (c.deref.ensures.value ∙ c.in_ok-text.ensures ∙ ap (λ t. t ++ 10 ∷ []) text)
