-- What the texts of members have to be.
use Rattle.std.specs.Prelude.{ℕ, ◌-◌, ◌&&◌, List, Bool, false, not, Option, Some, None, length, take, nat_eq, nat_le, nat_lt, if◌then◌else◌, codes}
use Rattle.std.specs.List.{list_all, ends_with}
use Rattle.edge_core.specs.Names.{is_name, is_one_segment}

-- a visible character of ASCII
abbrev pub is_visible_byte : ℕ → Bool
is_visible_byte b = nat_le 33 b && nat_le b 126

-- a word that can stand in a field of a head (RFC 9110, section 5.5), and can't end it or begin another
abbrev pub is_word : List ℕ → Bool
is_word text = nat_lt 0 (length text) && list_all is_visible_byte text

abbrev pub if_word : List ℕ → Option (List ℕ)
if_word text = if is_word text then Some text else None

-- a text that isn't empty
abbrev pub if_some : List ℕ → Option (List ℕ)
if_some text = if nat_lt 0 (length text) then Some text else None

-- a word that no slash cuts, as the name of a bucket
abbrev pub if_segment : List ℕ → Option (List ℕ)
if_segment text = if is_word text && is_one_segment text then Some text else None

-- what stands before the end of a text that ends with it
abbrev pub before : List ℕ → List ℕ → Option (List ℕ)
before end text = if ends_with nat_eq text end then Some (take (length text - length end) text) else None

abbrev pub is_name_there : Option (List ℕ) → Bool
is_name_there None = false
is_name_there (Some text) = is_name text

-- an object's name with a slash behind it
abbrev pub is_folder : List ℕ → Bool
is_folder text = is_name_there (before (codes "/") text)

-- what the keys of objects begin with: nothing, or a folder
abbrev pub prefix_of : List ℕ → Option (List ℕ)
prefix_of text = if nat_lt 0 (length text) && not (is_folder text) then None else Some text
