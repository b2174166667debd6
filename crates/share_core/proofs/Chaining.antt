-- The pages of a chain, one after another.
use Rattle.std.proofs.Common.{◌≡◌, ℕ, ◌+◌, ◌<◌, ◌≤◌, List, [], ◌∷◌, ◌++◌, length, drop, get_or, Option, Some, None, sym, refl, ap, ◌∙◌, append_assoc, add-one, suc}
use Rattle.std.specs.Prelude.{filter, option_and_then}
use Rattle.std.proofs.Math.ListN.{drop_of_length-le}
use Rattle.std.proofs.Math.Seq.{drop-cons}
use Rattle.std.proofs.lemmas.List.{append-nil}
use Rattle.std.proofs.lemmas.List.Elements.{filter-append}
use Rattle.share_lines.specs.declared.kinds.Line.{Line}
use Rattle.share_core.specs.Chains.{before_rest, is_content, joined, page_in}
use Rattle.share_core.specs.declared.reply.Reply.{Reply}

-- ---- the lines of a page

-- the files or changes of one line more, and then of the rest
pub content_next : (was here now rest all : List Line) (l : Line) → here ++ filter is_content (l ∷ rest) ≡ was ++ filter is_content all → now ≡ here ++ filter is_content (l ∷ []) → now ++ filter is_content rest ≡ was ++ filter is_content all
content_next was here now rest all l so_far pushed =
    ap (λ (x : List Line). x ++ filter is_content rest) pushed ∙ append_assoc here (filter is_content (l ∷ [])) (filter is_content rest)
    ∙ ap (λ (x : List Line). here ++ x) (sym (filter-append is_content (l ∷ []) rest)) ∙ so_far

pub content_end : (was here all : List Line) → here ++ filter is_content [] ≡ was ++ filter is_content all → here ≡ was ++ filter is_content all
content_end was here all so_far = sym (append-nil here) ∙ so_far

-- ---- the pages

-- those of all pages are those so far, and then those of the rest
abbrev pub Onto : List Reply → ℕ → List Line → Type 0
Onto all i content = joined all ≡ before_rest (joined (drop i all)) content

before_nothing : (o : Option (List Line)) → before_rest o [] ≡ o
before_nothing None = refl
before_nothing (Some rest) = refl

before_more : (o : Option (List Line)) (a b : List Line) → before_rest (before_rest o b) a ≡ before_rest o (a ++ b)
before_more None a b = refl
before_more (Some rest) a b = ap (λ (x : List Line). Some x) (sym (append_assoc a b rest))

pub onto_start : (all : List Reply) → Onto all 0 []
onto_start all = sym (before_nothing (joined all))

rest_at : (all : List Reply) (i : ℕ) (r : Reply) → i < length all → r ≡ get_or all i r → drop i all ≡ r ∷ drop (i + 1) all
rest_at all i r less is = rw (add-one i) (drop-cons all i r less ∙ ap (λ (x : Reply). x ∷ drop (suc i) all) (sym is))

pub onto_more : (all : List Reply) (i : ℕ) (r : Reply) (content here now : List Line) → i < length all → r ≡ get_or all i r → page_in r ≡ Some here → now ≡ content ++ here → Onto all i content → Onto all (i + 1) now
onto_more all i r content here now less is page held onto =
    let rest : Option (List Line) = joined (drop (i + 1) all) in
    onto ∙ ap (λ (x : List Reply). before_rest (joined x) content) (rest_at all i r less is) ∙ ap (λ (o : Option (List Line)). before_rest (option_and_then (before_rest rest) o) content) page
    ∙ before_more rest content here ∙ ap (before_rest rest) (sym held)

pub onto_none : (all : List Reply) (i : ℕ) (r : Reply) (content : List Line) → i < length all → r ≡ get_or all i r → page_in r ≡ None → Onto all i content → joined all ≡ None
onto_none all i r content less is page onto =
    let rest : Option (List Line) = joined (drop (i + 1) all) in
    onto ∙ ap (λ (x : List Reply). before_rest (joined x) content) (rest_at all i r less is) ∙ ap (λ (o : Option (List Line)). before_rest (option_and_then (before_rest rest) o) content) page

pub onto_end : (all : List Reply) (i : ℕ) (content : List Line) → length all ≤ i → Onto all i content → joined all ≡ Some content
onto_end all i content past onto = onto ∙ ap (λ (x : List Reply). before_rest (joined x) content) (drop_of_length-le all past) ∙ ap (λ (x : List Line). Some x) (append-nil content)
