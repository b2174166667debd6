-- How long the line of a file is by its link.
use Rattle.std.proofs.Common.{◌≡◌, ℕ, ◌+◌, List, [], ◌∷◌, ◌++◌, Bool, true, false, Some, None, take, drop, length, length-append, ap, arith, codes}
use Rattle.json.specs.Print.{escape, quoted}
use Rattle.serde_json.specs.Data.{Data, string}
use Rattle.serde_json.specs.Written.{comma_if, compact_text, members_text}
use Rattle.json_print.specs.Fields.{Field, members_of, object_of}
use Rattle.log_actions.specs.Printing.{add_fields_at, cdc_fields_at, remove_fields_at}
use Rattle.delta_lines.specs.Delta.{action_fields, action_name, delta_line_text, file_fields, single_fields, with_url}
use Rattle.delta_lines.specs.declared.kinds.FileAction.{FileAction}
use Rattle.delta_lines.specs.declared.kinds.FileAction.TheVariants as action
use Rattle.delta_lines.specs.declared.kinds.DeltaFile.{DeltaFile}
use Rattle.delta_lines.specs.declared.kinds.DeltaLine.TheVariants as line

-- the texts of two values differ by so many bytes
abbrev Differ : Data → Data → ℕ → ℕ → Type 0
Differ x y m n = length (compact_text x) + n ≡ length (compact_text y) + m

-- so do those of two objects that have them in one field
swapped : (name : List ℕ) (x y : Data) (before after : List Field) (m n : ℕ) (later : Bool) → Differ x y m n
    → length (members_text later (members_of (before ++ (name, Some x) ∷ after))) + n ≡ length (members_text later (members_of (before ++ (name, Some y) ∷ after))) + m
swapped name x y [] after m n later differ =
    let rest = members_text true (members_of after) in
    omega (
      arith,
      differ,
      length-append (comma_if later) (quoted name ++ 58 ∷ (compact_text x ++ rest)),
      length-append (comma_if later) (quoted name ++ 58 ∷ (compact_text y ++ rest)),
      length-append (quoted name) (58 ∷ (compact_text x ++ rest)),
      length-append (quoted name) (58 ∷ (compact_text y ++ rest)),
      length-append (compact_text x) rest,
      length-append (compact_text y) rest,
    )
swapped name x y ((other, None) ∷ before) after m n later differ = swapped name x y before after m n later differ
swapped name x y ((other, Some d) ∷ before) after m n later differ =
    let xs = members_text true (members_of (before ++ (name, Some x) ∷ after)) in
    let ys = members_text true (members_of (before ++ (name, Some y) ∷ after)) in
    omega (
      arith,
      swapped name x y before after m n true differ,
      length-append (comma_if later) (quoted other ++ 58 ∷ (compact_text d ++ xs)),
      length-append (comma_if later) (quoted other ++ 58 ∷ (compact_text d ++ ys)),
      length-append (quoted other) (58 ∷ (compact_text d ++ xs)),
      length-append (quoted other) (58 ∷ (compact_text d ++ ys)),
      length-append (compact_text d) xs,
      length-append (compact_text d) ys,
    )

in_object : (name : List ℕ) (x y : Data) (before after : List Field) (m n : ℕ) → Differ x y m n → Differ (object_of (before ++ (name, Some x) ∷ after)) (object_of (before ++ (name, Some y) ∷ after)) m n
in_object name x y before after m n differ = omega (arith, swapped name x y before after m n false differ)

texts_differ : (u v : List ℕ) → Differ (string u) (string v) (length (escape u)) (length (escape v))
texts_differ u v = omega (arith, length-append (escape u) (34 ∷ []), length-append (escape v) (34 ∷ []))

actions_differ : (a : FileAction) (u v : List ℕ) → Differ (object_of (action_fields u a)) (object_of (action_fields v a)) (length (escape u)) (length (escape v))
actions_differ (action.Add f) u v =
    in_object (codes "path") (string u) (string v) (take 3 (add_fields_at u f)) (drop 4 (add_fields_at u f)) (length (escape u)) (length (escape v)) (texts_differ u v)
actions_differ (action.Cdc f) u v =
    in_object (codes "path") (string u) (string v) (take 2 (cdc_fields_at u f)) (drop 3 (cdc_fields_at u f)) (length (escape u)) (length (escape v)) (texts_differ u v)
actions_differ (action.Remove f) u v =
    in_object (codes "path") (string u) (string v) (take 3 (remove_fields_at u f)) (drop 4 (remove_fields_at u f)) (length (escape u)) (length (escape v)) (texts_differ u v)

files_differ : (f : DeltaFile) (url : List ℕ) → length (delta_line_text (line.File (with_url url f))) + length (escape f.url) ≡ length (delta_line_text (line.File f)) + length (escape url)
files_differ f url =
    let m = length (escape url) in
    let n = length (escape f.url) in
    let x = object_of (action_fields url f.action) in
    let y = object_of (action_fields f.url f.action) in
    let single : Differ (object_of (single_fields url f.action)) (object_of (single_fields f.url f.action)) m n = in_object (action_name f.action) x y [] [] m n (actions_differ f.action url f.url) in
    let file : Differ (object_of (file_fields (with_url url f))) (object_of (file_fields f)) m n =
    in_object (codes "deltaSingleAction") (object_of (single_fields url f.action)) (object_of (single_fields f.url f.action)) [] (drop 1 (file_fields f)) m n single in
    in_object (codes "file") (object_of (file_fields (with_url url f))) (object_of (file_fields f)) [] [] m n file

-- with a link where none was
pub delta_with_url : (f : DeltaFile) (url : List ℕ) → f.url ≡ [] → length (delta_line_text (line.File (with_url url f))) ≡ length (delta_line_text (line.File f)) + length (escape url)
delta_with_url f url none =
    let nothing : length (escape f.url) ≡ 0 = ap (λ u. length (escape u)) none in
    omega (arith, nothing, files_differ f url)
