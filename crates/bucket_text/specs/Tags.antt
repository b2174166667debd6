-- The tags of a document ("Extensible Markup Language (XML) 1.0", section 3.1).
use Rattle.std.specs.Prelude.{ℕ, ◌+◌, ◌-◌, ◌||◌, ◌==◌, Bool, not, List, Option, Some, None, option_map, position, take, drop, length, slice_index}
use Rattle.std.specs.List.{list_all}
use Rattle.std.specs.Char.{is_ascii_alphanumeric}

-- section 2.3: a space, a tab, a line feed or a carriage return
abbrev pub is_white : ℕ → Bool
is_white b = (b == 32) || (b == 9) || (b == 10) || (b == 13)

abbrev pub is_blank : List ℕ → Bool
is_blank text = list_all is_white text

-- a letter or digit of ASCII, or one of `-._:`
abbrev pub is_name_byte : ℕ → Bool
is_name_byte b = is_ascii_alphanumeric b || (b == 45) || (b == 46) || (b == 95) || (b == 58)

abbrev pub ends_name : ℕ → Bool
ends_name b = not (is_name_byte b)

abbrev pub front_to : Option ℕ → List ℕ → List ℕ
front_to None text = text
front_to (Some end) text = take end text

-- the name at the front of a tag; attributes, which may follow it, are passed over
abbrev pub name_of : List ℕ → List ℕ
name_of tag = front_to (position ends_name tag) tag

-- what stands before the first such byte, and what behind it
abbrev pub cut : ℕ → List ℕ → Option (List ℕ × List ℕ)
cut c text = option_map (λ i. (take i text, drop (i + 1) text)) (position (λ b. b == c) text)

-- `</..>`
abbrev pub is_closing : List ℕ → Bool
is_closing tag = slice_index tag 0 == 47

-- `<?..>`
abbrev pub is_prolog : List ℕ → Bool
is_prolog tag = slice_index tag 0 == 63

-- `<../>`
abbrev pub is_empty_tag : List ℕ → Bool
is_empty_tag tag = slice_index tag (length tag - 1) == 47
