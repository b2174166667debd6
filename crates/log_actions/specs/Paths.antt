-- The paths of a table's files (Delta Lake PROTOCOL.md, "Add File and Remove File": a relative path from the root of the table, escaped as in RFC 2396).
use Rattle.std.specs.Prelude.{ℕ, ◌&&◌, ◌||◌, ◌==◌, List, [], ◌∷◌, ◌++◌, Bool, not, false, Option, Some, None, is_some, option_and_then, length, nat_lt, replicate, codes, if◌then◌else◌}
use Rattle.std.specs.List.{before_first, list_all, list_any}
use Rattle.std.specs.Char.{is_ascii_alphabetic, is_ascii_alphanumeric}
use Rattle.std.specs.Str.{is_utf8}
use Rattle.edge_core.specs.Names.{is_name}
use Rattle.percent_encoding.specs.Percent.{percent_decode}

-- a byte of a scheme after its first: letters, digits, `+`, `-` and `.`
abbrev pub is_scheme_byte : ℕ → Bool
is_scheme_byte b = is_ascii_alphanumeric b || list_any (λ c. c == b) (codes "+-.")

-- the name of a scheme (RFC 3986, section 3.1)
abbrev pub is_scheme : List ℕ → Bool
is_scheme [] = false
is_scheme (b ∷ bytes) = is_ascii_alphabetic b && list_all is_scheme_byte bytes

-- whether the text before the first colon is a scheme, 58 being `:`
abbrev pub has_scheme : List ℕ → Bool
has_scheme path = list_any (λ b. b == 58) path && is_scheme (before_first (λ b. b == 58) path)

-- 47 is `/`
abbrev pub begins_with_slash : List ℕ → Bool
begins_with_slash [] = false
begins_with_slash (b ∷ bytes) = b == 47

-- relative, and not to the host or the scheme (RFC 3986, section 4.2)
abbrev pub is_relative : List ℕ → Bool
is_relative path = nat_lt 0 (length path) && (not (begins_with_slash path) && not (has_scheme path))

-- the bytes that a path's escapes stand for, where they are UTF-8 (RFC 3986, section 2.1)
abbrev pub decoded : List ℕ → Option (List ℕ)
decoded path = if is_utf8 (percent_decode path) then Some (percent_decode path) else None

-- the name of a text below a location, if it is a name
abbrev pub name_of_text : List ℕ → List ℕ → Option (List ℕ)
name_of_text location text = if is_name (location ++ codes "/" ++ text) then Some (location ++ codes "/" ++ text) else None

-- the name of the stored object of a path below a location, if there is one
abbrev pub name_under : List ℕ → List ℕ → Option (List ℕ)
name_under location path = if is_relative path then option_and_then (name_of_text location) (decoded path) else None

-- whether a path has a name below a location of 256 bytes
abbrev pub is_good_path : List ℕ → Bool
is_good_path path = is_some (name_under (replicate 256 97) path)
