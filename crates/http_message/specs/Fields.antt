-- Fields by their names, and the elements of their values (RFC 9110, sections 5.1 and 5.6.1).
use Rattle.std.specs.Prelude.{ℕ, ◌+◌, ◌≤◌, Bool, ◌==◌, List, [], ◌∷◌, length, map, slice_range, bytes_eq, if◌then◌else◌}
use Rattle.std.specs.Char.{to_ascii_lowercase}
use Rattle.std.specs.List.{list_any, slice_split}
use Rattle.httparse.specs.Grammar.{trim_ows}
use Rattle.http_message.specs.declared.field.Place.{Place}

-- the field at a place of the text, as the pair of its name and its value
abbrev pub field_at : List ℕ → Place → List ℕ × List ℕ
field_at text p = (slice_range text p.start p.middle, slice_range text p.middle p.end)

-- the place is one of a text of so many bytes
pub record IsWithin (len : ℕ) (p : Place) : Type 0 where
  pub name : p.start ≤ p.middle
  pub value : p.middle ≤ p.end
  pub text : p.end ≤ len

-- how many bytes its name and its value have
abbrev pub field_len : List ℕ × List ℕ → ℕ
field_len field = length field.0 + length field.1

-- the texts are the same but for the case of ASCII letters
abbrev pub same_text : List ℕ → List ℕ → Bool
same_text a b = bytes_eq (map to_ascii_lowercase a) (map to_ascii_lowercase b)

abbrev pub is_named : List ℕ → List ℕ × List ℕ → Bool
is_named name field = same_text field.0 name

-- the value of the first field of that name, or the empty value
abbrev pub first_named : List ℕ → List (List ℕ × List ℕ) → List ℕ
first_named name [] = []
first_named name (field ∷ fields) = if is_named name field then field.1 else first_named name fields

-- one of the elements between commas is the option, without the white space around it
abbrev pub lists_option : List ℕ → List ℕ → Bool
lists_option option value = list_any (λ element. same_text (trim_ows element) option) (slice_split (λ b. b == 44) value)
