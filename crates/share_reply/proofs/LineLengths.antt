-- How long the line of a file is by its link.
use Rattle.std.proofs.Common.{◌≡◌, ℕ, ◌+◌, List, [], ◌∷◌, ◌++◌, Bool, true, false, Some, None, take, drop, Option, length, length-append, refl, sym, ap, ◌∙◌, arith, codes}
use Rattle.json.specs.Print.{escape, quoted}
use Rattle.serde_json.specs.Data.{string}
use Rattle.serde_json.specs.Written.{comma_if, compact_text, members_text}
use Rattle.json_print.specs.Fields.{Field, members_of}
use Rattle.share_lines.specs.Parts.{file_data, kind_word, line_of}
use Rattle.share_lines.specs.Printing.{file_fields, line_text}
use Rattle.share_lines.specs.declared.kinds.FileLine.{FileLine}
use Rattle.share_lines.specs.declared.parts.FileKind.{FileKind}
use Rattle.share_lines.proofs.PartLemmas.{of_kind}
use Rattle.share_lines.specs.declared.kinds.Line.{Line}
use Rattle.share_request.specs.declared.asked.ResponseFormat.{ResponseFormat}
use Rattle.share_request.specs.declared.asked.ResponseFormat.TheVariants as format
use Rattle.delta_lines.specs.Formats.{as_kind, file_line_of, parquet_of}
use Rattle.delta_lines.specs.Parts.{action_in}
use Rattle.delta_lines.specs.declared.kinds.DeltaLine.TheVariants as delta
use Rattle.delta_lines.specs.declared.parts.ActionParts.{ActionParts}
use Rattle.delta_lines.specs.declared.parts.ActionParts.TheVariants as parts
use Rattle.delta_lines.proofs.LineLengths.{delta_with_url}
use Rattle.share_reply.specs.Formats.{text_in}
use Rattle.share_reply.specs.Planned.{given_in, kind_by, kind_in}
use Rattle.share_reply.specs.declared.given.Given.{Given}

-- the line with another link
abbrev with_url : List ℕ → FileLine → FileLine
with_url url f = record f { url = url }

-- another text in one of the fields
swapped : (name u v : List ℕ) (before after : List Field) (later : Bool)
    → length (members_text later (members_of (before ++ (name, Some (string u)) ∷ after))) + length (escape v) ≡ length (members_text later (members_of (before ++ (name, Some (string v)) ∷ after))) + length (escape u)
swapped name u v [] after later =
    let rest = members_text true (members_of after) in
    omega (
      arith,
      length-append (comma_if later) (quoted name ++ 58 ∷ (quoted u ++ rest)),
      length-append (comma_if later) (quoted name ++ 58 ∷ (quoted v ++ rest)),
      length-append (quoted name) (58 ∷ (quoted u ++ rest)),
      length-append (quoted name) (58 ∷ (quoted v ++ rest)),
      length-append (quoted u) rest,
      length-append (quoted v) rest,
      length-append (escape u) (34 ∷ []),
      length-append (escape v) (34 ∷ []),
    )
swapped name u v ((other, None) ∷ before) after later = swapped name u v before after later
swapped name u v ((other, Some d) ∷ before) after later =
    let us = members_text true (members_of (before ++ (name, Some (string u)) ∷ after)) in
    let vs = members_text true (members_of (before ++ (name, Some (string v)) ∷ after)) in
    omega (
      arith,
      swapped name u v before after true,
      length-append (comma_if later) (quoted other ++ 58 ∷ (compact_text d ++ us)),
      length-append (comma_if later) (quoted other ++ 58 ∷ (compact_text d ++ vs)),
      length-append (quoted other) (58 ∷ (compact_text d ++ us)),
      length-append (quoted other) (58 ∷ (compact_text d ++ vs)),
      length-append (compact_text d) us,
      length-append (compact_text d) vs,
    )

fields_with_url : (f : FileLine) (url : List ℕ) → length (members_text false (members_of (file_fields (with_url url f)))) + length (escape f.url) ≡ length (members_text false (members_of (file_fields f))) + length (escape url)
fields_with_url f url = swapped (codes "url") url f.url (take 6 (file_fields f)) (drop 7 (file_fields f)) false

-- the object of a kind, around the fields
around : (k : FileKind) (f : FileLine) → length (compact_text (file_data k f)) ≡ length (quoted (kind_word k)) + length (members_text false (members_of (file_fields f))) + 4
around k f =
    let fields = members_text false (members_of (file_fields f)) in
    omega (arith, length-append (quoted (kind_word k)) (58 ∷ ((123 ∷ fields) ++ (125 ∷ []))), length-append fields (125 ∷ []))

of_line : (k : FileKind) (f : FileLine) → length (compact_text (file_data k f)) ≡ length (line_text (line_of k f))
of_line k f = ap (λ d. length (compact_text d)) (of_kind k f)

-- with a link where none was
line_with_url : (k : FileKind) (f : FileLine) (url : List ℕ) → f.url ≡ [] → length (line_text (line_of k (with_url url f))) ≡ length (line_text (line_of k f)) + length (escape url)
line_with_url k f url none =
    let nothing : length (escape f.url) ≡ 0 = ap (λ u. length (escape u)) none in
    omega (arith, nothing, fields_with_url f url, around k f, around k (with_url url f), of_line k f, of_line k (with_url url f))

-- a file's line in the parquet format has the kind by which it is printed
pub by_kind : (version : Option ℕ) (a : ActionParts) (f : FileLine) → as_kind version (action_in a) f ≡ line_of (kind_by version a) f
by_kind None a f = refl
by_kind (Some v) (parts.Add x) f = refl
by_kind (Some v) (parts.Cdc x) f = refl
by_kind (Some v) (parts.Remove x) f = refl

parquet_linked : (g : Given) (url : List ℕ) (expires : ℕ) → length (line_text (parquet_of (given_in url expires g))) ≡ length (line_text (parquet_of (given_in [] expires g))) + length (escape url)
parquet_linked g url expires =
    let bare : FileLine = file_line_of (given_in [] expires g) in
    ap (λ (l : Line). length (line_text l)) (by_kind g.version g.action (file_line_of (given_in url expires g)))
    ∙ line_with_url (kind_in g) bare url refl
    ∙ ap (λ (l : Line). length (line_text l) + length (escape url)) (sym (by_kind g.version g.action bare))

-- in each format, with a link where none was
pub linked_text : (f : ResponseFormat) (g : Given) (url : List ℕ) (expires : ℕ) → length (text_in f (delta.File (given_in url expires g))) ≡ length (text_in f (delta.File (given_in [] expires g))) + length (escape url)
linked_text format.Parquet g url expires = parquet_linked g url expires
linked_text format.Delta g url expires = delta_with_url (given_in [] expires g) url refl
