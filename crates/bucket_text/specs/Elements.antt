-- The elements of a document ("Extensible Markup Language (XML) 1.0", sections 2.1, 2.8 and 3), as far as they need no more than this: a prolog, elements,
-- attributes, which are passed over, and texts. Comments, sections of CDATA, instructions and declarations aren't read, nor is text behind the end of an element.
-- An element is its path, the names from the document's element down to it, each behind a slash, and the text behind its opening tag.
use Rattle.std.specs.Prelude.{ℕ, ◌-◌, ◌&&◌, List, [], ◌∷◌, ◌++◌, Option, Some, None, option_map, length, take, drop, bytes_eq, codes, if◌then◌else◌, ◌==◌}
use Rattle.std.specs.List.{slice_split}
use Rattle.json_tree.specs.Options.{◌>>=◌}
use Rattle.bucket_text.specs.Steps.{steps}
use Rattle.bucket_text.specs.Tags.{cut, is_blank, is_closing, is_empty_tag, is_prolog, name_of}

abbrev pub Element : Type 0
Element = List ℕ × List ℕ

-- the path of the element that is open, empty before the first and behind the last one, and the elements that have begun
abbrev pub State : Type 0
State = List ℕ × List Element

-- the path that ends with the tag is left
abbrev pub closed_by : List ℕ → List ℕ → List ℕ → Option (List ℕ)
closed_by path tag text =
    if bytes_eq (drop (length path - length tag) path) tag && is_blank text then Some (take (length path - length tag) path) else None

abbrev pub below : List ℕ → List ℕ → Option (List ℕ)
below path [] = None
below path (b ∷ name) = Some (path ++ codes "/" ++ b ∷ name)

abbrev pub opened_by : State → List ℕ → List ℕ → Option State
opened_by state tag text =
    option_map (λ path. (path, state.1 ++ (path, text) ∷ [])) (below state.0 (name_of tag))

abbrev pub emptied_by : List ℕ → List Element → List ℕ → List ℕ → Option (List Element)
emptied_by path elements tag text =
    below path (name_of tag) >>= (λ inner. if is_blank text then Some (elements ++ (inner, []) ∷ []) else None)

abbrev pub with_tag : State → List ℕ → List ℕ → Option State
with_tag state tag text =
    if is_closing tag then option_map (λ path. (path, state.1)) (closed_by state.0 tag text)
    else if is_prolog tag then (if (length state.0 == 0) && is_blank text then Some state else None)
    else if is_empty_tag tag then option_map (λ elements. (state.0, elements)) (emptied_by state.0 state.1 tag text)
    else opened_by state tag text

-- what stands between a `<` and the next one: a tag, a `>`, and a text
abbrev pub with_piece : State → List ℕ → Option State
with_piece state piece = cut 62 piece >>= (λ parts. with_tag state parts.0 parts.1)

abbrev pub with_pieces : State → List (List ℕ) → Option State
with_pieces state pieces = steps with_piece state pieces

-- no element is open at the end
abbrev pub ended : State → Option (List Element)
ended state = if length state.0 == 0 then Some state.1 else None

-- nothing stands before the first tag
abbrev pub elements_in : List (List ℕ) → Option (List Element)
elements_in [] = None
elements_in (front ∷ pieces) = if is_blank front then with_pieces ([], []) pieces >>= ended else None

-- the elements, in the order in which they begin
unfoldable pub elements_of : List ℕ → Option (List Element)
elements_of text = elements_in (slice_split (λ b. b == 60) text)
