-- The path of a request ("Create a canonical request", CanonicalURI: each byte is URI-encoded but the unreserved ones and the slash).
use Rattle.std.specs.Prelude.{ℕ, ◌==◌, List, [], ◌∷◌, if◌then◌else◌}
use Rattle.std.specs.List.{flat_map}
use Rattle.text_forms.specs.Escape.{escaped_byte}

-- the slash as it is, and every other byte escaped (RFC 3986, section 2.1)
abbrev pub escaped_path_byte : ℕ → List ℕ
escaped_path_byte b = if b == 47 then b ∷ [] else escaped_byte b

unfoldable pub escaped_path : List ℕ → List ℕ
escaped_path text = flat_map escaped_path_byte text
