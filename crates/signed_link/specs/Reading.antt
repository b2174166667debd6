-- How links are read, from left to right. What is read is spelt again and compared, so this may take more than
-- links: leading zeros, a plus, escapes of any byte, and any tag.
use Rattle.std.specs.Prelude.{ℕ, ◌^◌, ◌&&◌, ◌==◌, List, length, drop, Option, Some, None, nat_lt, nat_eq, if◌then◌else◌, codes}
use Rattle.std.specs.List.{position_or_len, before_first, after_first, starts_with}
use Rattle.std.specs.Str.{is_utf8, all_ascii_digits}
use Rattle.std.specs.Str.Parse.{digits_value, without_leading_plus}
use Rattle.percent_encoding.specs.Percent.{percent_decode}
use Rattle.share_catalog.specs.Grammar.{is_catalog_name}
use Rattle.json_tree.specs.Options.{◌>>=◌}
use Rattle.signed_link.specs.declared.parts.LinkParts.{LinkParts}

-- what comes before the first byte c, and what comes after it
unfoldable pub cut : ℕ → List ℕ → Option (List ℕ × List ℕ)
cut c text =
    if nat_lt (position_or_len (λ b. b == c) text) (length text)
    then Some (before_first (λ b. b == c) text, after_first (λ b. b == c) text)
    else None

-- what comes after the front
unfoldable pub after : List ℕ → List ℕ → Option (List ℕ)
after front text = if starts_with nat_eq text front then Some (drop (length front) text) else None

-- the value of the parameter, and what comes after it
unfoldable pub value_in : List ℕ → List ℕ → Option (List ℕ × List ℕ)
value_in name text = do
  rest ← after name text
  cut 38 rest

unfoldable pub number_of : List ℕ → Option ℕ
number_of text =
    if nat_lt 0 (length (without_leading_plus text)) && all_ascii_digits (without_leading_plus text) && nat_lt (digits_value 10 (without_leading_plus text)) (2 ^ 63)
    then Some (digits_value 10 (without_leading_plus text))
    else None

unfoldable pub number_in : List ℕ → List ℕ → Option (ℕ × List ℕ)
number_in name text = do
  v ← value_in name text
  n ← number_of v.0
  Some (n, v.1)

abbrev pub name_of : List ℕ → Option (List ℕ)
name_of text = if is_catalog_name text then Some text else None

abbrev pub path_of : List ℕ → Option (List ℕ)
path_of text = if is_utf8 (percent_decode text) then Some (percent_decode text) else None

-- the parts of a link below the endpoint
unfoldable pub parts_in : List ℕ → List ℕ → Option LinkParts
parts_in endpoint text = do
  link ← after endpoint text
  below ← after (codes "/files/") link
  share ← cut 47 below
  schema ← cut 47 share.1
  table ← cut 47 schema.1
  path ← cut 63 table.1
  binding ← number_in (codes "b=") path.1
  expires ← number_in (codes "e=") binding.1
  grant ← number_in (codes "g=") expires.1
  recipient ← value_in (codes "r=") grant.1
  share_name ← name_of share.0
  schema_name ← name_of schema.0
  table_name ← name_of table.0
  recipient_name ← name_of recipient.0
  path_text ← path_of path.0
  Some (record {
    table = record { share = share_name; schema = schema_name; table = table_name };
    path = path_text;
    binding = binding.0;
    expires = expires.0;
    grant = grant.0;
    recipient = recipient_name;
  })
