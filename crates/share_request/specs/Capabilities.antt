-- The format in which the lines of tables are asked for (Delta Sharing PROTOCOL.md, "Delta Sharing Capabilities Header").
use Rattle.std.specs.Prelude.{ℕ, Bool, ◌&&◌, ◌==◌, not, List, [], Option, Some, None, unwrap_or, codes, if◌then◌else◌}
use Rattle.std.specs.List.{find, flat_map, slice_split}
use Rattle.std.specs.Str.{is_utf8}
use Rattle.httparse.specs.Grammar.{trim_ows}
use Rattle.http_message.specs.Fields.{is_named, lists_option, same_text}
use Rattle.http_message.specs.Framing.{Pairs}
use Rattle.signed_link.specs.Reading.{cut}
use Rattle.share_request.specs.declared.asked.ResponseFormat.{ResponseFormat}
use Rattle.share_request.specs.declared.asked.ResponseFormat.TheVariants as format

-- the parts between the `;` of a field of that name; a value that isn't UTF-8 has none
abbrev pub field_parts : List ℕ × List ℕ → List (List ℕ)
field_parts field =
    if is_named (codes "delta-sharing-capabilities") field && is_utf8 field.1
    then slice_split (λ b. b == 59) field.1
    else []

-- those of all fields, in order
abbrev pub capability_parts : Pairs → List (List ℕ)
capability_parts fields = flat_map field_parts fields

-- what stands before and behind the first `=` of a part; a part without one is a name with an empty list
abbrev pub name_and_list : List ℕ → List ℕ × List ℕ
name_and_list part = unwrap_or (cut 61 part) (part, [])

-- the name is `responseformat`, in any case, with spaces and tabs around it
abbrev pub names_formats : List ℕ → Bool
names_formats part = same_text (trim_ows (name_and_list part).0) (codes "responseformat")

-- `delta` is asked where the list has it and hasn't `parquet`: who takes both is answered in parquet, which is our choice
abbrev pub asks_delta : List ℕ → Bool
asks_delta list = lists_option (codes "delta") list && not (lists_option (codes "parquet") list)

abbrev pub format_by : List ℕ → ResponseFormat
format_by part = if asks_delta (name_and_list part).1 then format.Delta else format.Parquet

abbrev pub format_of : Option (List ℕ) → ResponseFormat
format_of None = format.Parquet
format_of (Some part) = format_by part

-- the first part that names formats counts
abbrev pub format_in : Pairs → ResponseFormat
format_in fields = format_of (find names_formats (capability_parts fields))
