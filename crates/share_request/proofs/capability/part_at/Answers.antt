use Rattle.std.proofs.Common.{◌≡◌, ℕ, List, [], true, false, sym, ap, ◌∙◌, subst}
use Rattle.std.specs.Prelude.{codes, slice_index_or, ◌==◌}
use Rattle.std.specs.List.{find, slice_split}
use Rattle.std.specs.Str.{IsUtf8, is_utf8}
use Rattle.std.proofs.lemmas.Bool.{false_from_ne_true}
use Rattle.std.proofs.lemmas.Str.{is_utf8-from_IsUtf8, IsUtf8-from_is_utf8}
use Rattle.http_message.specs.Fields.{is_named}
use Rattle.share_request.specs.Capabilities.{names_formats}
use Rattle.share_request.proofs.FormatParts.{no_parts, parts_are}
use Rattle.share_request.proofs.capability.part_at.Goals as goal

pub returns-in-Ok : goal.returns-in-Ok
returns-in-Ok c =
    let field : List ℕ × List ℕ = slice_index_or c.args.fields.now c.args.index ([], []) in
    let named : is_named (codes "delta-sharing-capabilities") field ≡ true = sym c.is_capability.ensures ∙ c.if-not-is_capability.false in
    let text : is_utf8 field.1 ≡ true = is_utf8-from_IsUtf8 field.1 (subst IsUtf8 c.value.ensures c.in-Ok.ensures.cases.1) in
    let same : c.in-Ok.value.now ≡ field.1 = c.in-Ok.ensures.cases.0 ∙ c.value.ensures in
    c.formats_part.ensures ∙ ap (λ v. find names_formats (slice_split (λ b. b == 59) v)) same ∙ ap (find names_formats) (sym (parts_are field named text))

pub returns-in-Err : goal.returns-in-Err
returns-in-Err c =
    let field : List ℕ × List ℕ = slice_index_or c.args.fields.now c.args.index ([], []) in
    let none : is_utf8 field.1 ≡ false = false_from_ne_true (is_utf8 field.1) (λ so. c.in-Err.ensures.cases.0 (subst IsUtf8 (sym c.value.ensures) (IsUtf8-from_is_utf8 field.1 so))) in
    sym (ap (find names_formats) (no_parts field none))
