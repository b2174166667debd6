-- The head of a request (RFC 9112, sections 2 to 5), by the grammar of `httparse`, with at most 64 fields.
use Rattle.std.specs.Prelude.{◌≡◌, ℕ, ◌≤◌, List, map, length, All}
use Rattle.httparse.specs.Grammar.{RequestHead, IsRequestHead, print_request, Field as Line, LineEnd, IsField, print_section}
use Rattle.httparse.specs.Spans.{name_and_value}
use Rattle.http_message.specs.declared.head.Head.{Head}

-- what is kept of a head: the values without the white space around them
abbrev pub head_of_tree : RequestHead → Head
head_of_tree tree =
    record { method = tree.method; target = tree.target; minor = tree.minor; fields = map name_and_value tree.fields }

-- the whole text is that tree's
pub record IsTextOf (text : List ℕ) (tree : RequestHead) : Type 0 where
  pub valid : IsRequestHead tree
  pub spelled : text ≡ print_request tree
  pub few : length tree.fields ≤ 64

-- the whole text is a head, and this is what is kept of it
abbrev pub IsHeadText : List ℕ → Head → Type 0
IsHeadText text head = (tree : RequestHead) × IsTextOf text tree × (head ≡ head_of_tree tree)

-- the whole text is field lines, at most 64, and an empty line
pub record IsTrailersOf (text : List ℕ) (fields : List Line) (last : LineEnd) : Type 0 where
  pub valid : All IsField fields
  pub spelled : text ≡ print_section fields last
  pub few : length fields ≤ 64

abbrev pub IsTrailersText : List ℕ → Type 0
IsTrailersText text = (fields : List Line) × (last : LineEnd) × IsTrailersOf text fields last
