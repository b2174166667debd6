-- Percent-encoding (RFC 3986, section 2.1) of all but the unreserved characters (section 2.3).
use Rattle.std.specs.Prelude.{ℕ, Bool, ◌||◌, ◌==◌, List, [], ◌∷◌, if◌then◌else◌}
use Rattle.std.specs.List.{flat_map}
use Rattle.std.specs.Char.{is_ascii_alphanumeric}
use Rattle.percent_encoding.specs.Percent.{percent_encode_byte}

-- an ASCII letter, a digit, or one of `-._~`
abbrev pub is_unreserved : ℕ → Bool
is_unreserved b = is_ascii_alphanumeric b || b == 45 || b == 46 || b == 95 || b == 126

-- the byte as it is, or `%` and its two upper-case digits
abbrev pub escaped_byte : ℕ → List ℕ
escaped_byte b = if is_unreserved b then b ∷ [] else percent_encode_byte b

-- the escaped form of a text
unfoldable pub escaped : List ℕ → List ℕ
escaped text = flat_map escaped_byte text
