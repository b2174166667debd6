-- The texts of fields, and what stands behind a front or before an end.
use Rattle.std.specs.Prelude.{ℕ, ◌-◌, List, Option, Some, None, length, take, drop, nat_eq, if◌then◌else◌}
use Rattle.std.specs.List.{starts_with, ends_with}
use Rattle.std.specs.Result.{result_ok}
use Rattle.serde_json.specs.Data.{Data}
use Rattle.serde_json.specs.Find.{as_str}
use Rattle.hex.specs.Hex.{decode_sized}
use Rattle.json_tree.specs.Fields.{present}
use Rattle.json_tree.specs.Options.{◌>>=◌}

-- the text of a field, none where it is absent, null or of another kind
abbrev pub text_in : List ℕ → Data → Option (List ℕ)
text_in name d = present name d >>= as_str

-- the 32 bytes that 64 hexadecimal digits spell, in either case (RFC 4648, section 8)
abbrev pub bytes_of : List ℕ → Option (List ℕ)
bytes_of digits = result_ok (decode_sized digits 32)

abbrev pub bytes_in : List ℕ → Data → Option (List ℕ)
bytes_in name d = text_in name d >>= bytes_of

-- what stands behind the front of a text that begins with it
abbrev pub after : List ℕ → List ℕ → Option (List ℕ)
after front text = if starts_with nat_eq text front then Some (drop (length front) text) else None

-- what stands before the end of a text that ends with it
abbrev pub before : List ℕ → List ℕ → Option (List ℕ)
before end text = if ends_with nat_eq text end then Some (take (length text - length end) text) else None
