-- What texts say ("Extensible Markup Language (XML) 1.0", sections 4.1 and 4.6), and keys in escaped form (Amazon S3 API Reference, "ListObjectsV2",
-- encoding-type).
use Rattle.std.specs.Prelude.{ℕ, ◌==◌, List, [], ◌∷◌, ◌++◌, Option, Some, None, option_map, map, bytes_eq, codes, if◌then◌else◌}
use Rattle.std.specs.List.{slice_split}
use Rattle.std.specs.Str.{is_utf8}
use Rattle.percent_encoding.specs.Percent.{percent_decode}
use Rattle.json_tree.specs.Options.{◌>>=◌}
use Rattle.text_forms.specs.Numbers.{number_in}
use Rattle.bucket_text.specs.Steps.{steps}
use Rattle.bucket_text.specs.Tags.{cut}

-- `#` and the decimal number of a character of ASCII
abbrev pub numbered : List ℕ → Option ℕ
numbered [] = None
numbered (b ∷ digits) = if b == 35 then number_in 1 127 digits else None

-- one of the five names, or a number
abbrev pub character_of : List ℕ → Option ℕ
character_of name =
    if bytes_eq name (codes "lt") then Some 60
    else if bytes_eq name (codes "gt") then Some 62
    else if bytes_eq name (codes "amp") then Some 38
    else if bytes_eq name (codes "apos") then Some 39
    else if bytes_eq name (codes "quot") then Some 34
    else numbered name

-- what stands between a `&` and the next one: a reference's name, a `;`, and a text
abbrev pub with_part : List ℕ → List ℕ → Option (List ℕ)
with_part out part =
    cut 59 part >>= (λ r. option_map (λ character. out ++ character ∷ [] ++ r.1) (character_of r.0))

abbrev pub with_parts : List ℕ → List (List ℕ) → Option (List ℕ)
with_parts out parts = steps with_part out parts

abbrev pub said_in : List (List ℕ) → Option (List ℕ)
said_in [] = None
said_in (front ∷ parts) = with_parts front parts

-- the text with the character for each reference
unfoldable pub said_by : List ℕ → Option (List ℕ)
said_by text = said_in (slice_split (λ b. b == 38) text)

abbrev pub text_of : List ℕ → Option (List ℕ)
text_of bytes = if is_utf8 bytes then Some bytes else None

-- a plus is a space
abbrev pub spaced : ℕ → ℕ
spaced b = if b == 43 then 32 else b

abbrev pub plain_text : List ℕ → Option (List ℕ)
plain_text text = said_by text >>= text_of

abbrev pub key_text : List ℕ → Option (List ℕ)
key_text text = said_by text >>= (λ said. text_of (percent_decode (map spaced said)))
