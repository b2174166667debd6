use Rattle.std.proofs.Common.{◌∙◌, ap, length, subst}
use Rattle.serde_json.specs.Written.{compact_text}
use Rattle.json_print.specs.Lengths.{Counts, capped}
use Rattle.json_print.specs.Tokens.{value_tokens}
use Rattle.json_print.proofs.LengthLemmas.{text_counted}
use Rattle.share_lines.specs.Parts.{file_data, file_in}
use Rattle.share_lines.proofs.PartLemmas.{of_kind}
use Rattle.share_lines.proofs.table_lines.file_parts_len.Goals as goal

pub returns : goal.returns
returns c =
    let object = file_data c.args.kind (file_in c.args.file.now) in
    text_counted {at = c.kind_object.new.writer} object (subst (λ l. Counts l c.kind_object.new.writer (value_tokens object)) c.new-length.ensures c.in-Ok.ensures)
    ∙ ap (λ d. capped (length (compact_text d))) (of_kind c.args.kind (file_in c.args.file.now))
