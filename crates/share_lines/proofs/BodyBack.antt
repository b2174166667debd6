-- The printed body of lines is read as the lines.
use Rattle.std.proofs.Common.{◌≡◌, ℕ, ◌+◌, ◌<◌, ◌≤◌, List, [], ◌∷◌, ◌++◌, length, map, take, get_or, Bool, true, false, not, Some, Ok, refl, sym, ap, ◌∙◌, subst, append_assoc}
use Rattle.std.specs.Prelude.{◌&&◌, ◌||◌, filter_map, is_some, nat_lt}
use Rattle.std.specs.List.{cons_option, list_any}
use Rattle.std.proofs.lemmas.List.{append-nil, take_all, take_more}
use Rattle.json_print.specs.Lines.{lines as pieces}
use Rattle.json_print.proofs.Cutting.{first_line}
use Rattle.json_print.proofs.LineFeeds.{text_free}
use Rattle.share_lines.specs.Bodies.{AreReadBack, is_bad, line_at, lines_in, lines_of_pieces}
use Rattle.share_lines.specs.Printing.{body_text, line_data, line_text}
use Rattle.share_lines.proofs.Pieces.{empty_line}
use Rattle.share_lines.specs.declared.kinds.Line.{Line}

read_back_push : (ls : List Line) (l : Line) → AreReadBack ls → line_at (line_text l) ≡ Some l → AreReadBack (ls ++ l ∷ [])
read_back_push [] l all back = (back, tt)
read_back_push (x ∷ ls) l all back = (all.0, read_back_push ls l all.1 back)

-- pieces that stand for lines
record Stand (ls : List Line) (ps : List (List ℕ)) : Type 0 where
  good : list_any is_bad ps ≡ false
  gives : filter_map line_at ps ≡ ls

not_bad : (b c : Bool) → c ≡ true → (b && not c) ≡ false
not_bad true true e = refl
not_bad false true e = refl
not_bad b false e = cc

first_good : (b rest : Bool) → b ≡ false → rest ≡ false → (b || rest) ≡ false
first_good true rest e f = e
first_good false rest e f = f

one_more : (l : Line) (ls : List Line) (ps : List (List ℕ)) → line_at (line_text l) ≡ Some l → Stand ls ps → Stand (l ∷ ls) (line_text l ∷ ps)
one_more l ls ps back rest = record {
  good = first_good (is_bad (line_text l)) (list_any is_bad ps) (not_bad (nat_lt 0 (length (line_text l))) (is_some (line_at (line_text l))) (ap is_some back)) rest.good;
  gives = ap (λ o. cons_option o (filter_map line_at ps)) back ∙ ap (λ more. l ∷ more) rest.gives;
}

-- the pieces between line feeds are the texts of the lines
pub lines_apart : (ls : List Line) → pieces (body_text ls) ≡ map line_text ls ++ [] ∷ []
lines_apart [] = refl
lines_apart (l ∷ ls) =
    ap pieces (append_assoc (line_text l) (10 ∷ []) (body_text ls)) ∙ first_line (line_text l) (body_text ls) (text_free (line_data l)) ∙ ap (λ ps. line_text l ∷ ps) (lines_apart ls)

body_stands : (ls : List Line) → AreReadBack ls → Stand ls (pieces (body_text ls))
body_stands [] all = record { good = refl; gives = ap (λ o. cons_option o []) empty_line }
body_stands (l ∷ ls) all =
    subst (Stand (l ∷ ls)) (sym (ap pieces (append_assoc (line_text l) (10 ∷ []) (body_text ls)) ∙ first_line (line_text l) (body_text ls) (text_free (line_data l))))
    (one_more l ls (pieces (body_text ls)) all.0 (body_stands ls all.1))

stand_for : (ls : List Line) (ps : List (List ℕ)) → Stand ls ps → lines_of_pieces ps ≡ Ok ls
stand_for ls ps s = rw (s.good, s.gives) refl

pub body_back : (ls : List Line) → AreReadBack ls → lines_in (body_text ls) ≡ Ok ls
body_back ls all = stand_for ls (pieces (body_text ls)) (body_stands ls all)

body_push : (ls : List Line) (l : Line) → body_text (ls ++ l ∷ []) ≡ body_text ls ++ (line_text l ++ 10 ∷ [])
body_push [] l = append-nil (line_text l ++ 10 ∷ [])
body_push (x ∷ ls) l = ap (λ t. (line_text x ++ 10 ∷ []) ++ t) (body_push ls l) ∙ sym (append_assoc (line_text x ++ 10 ∷ []) (body_text ls) (line_text l ++ 10 ∷ []))

-- one line more was printed
pub text_more : (ls : List Line) (i : ℕ) (l : Line) (old new : List ℕ) → i < length ls → l ≡ get_or ls i l → old ≡ body_text (take i ls) → new ≡ old ++ (line_text l ++ 10 ∷ []) → new ≡ body_text (take (i + 1) ls)
text_more ls i l old new lt is so adds =
    adds ∙ ap (λ t. t ++ (line_text l ++ 10 ∷ [])) so ∙ sym (body_push (take i ls) l) ∙ ap body_text (ap (λ x. take i ls ++ x ∷ []) is ∙ sym (take_more ls i l lt))

pub back_more : (ls : List Line) (i : ℕ) (l : Line) → i < length ls → l ≡ get_or ls i l → AreReadBack (take i ls) → line_at (line_text l) ≡ Some l → AreReadBack (take (i + 1) ls)
back_more ls i l lt is all back =
    subst AreReadBack (ap (λ x. take i ls ++ x ∷ []) is ∙ sym (take_more ls i l lt)) (read_back_push (take i ls) l all back)

-- all lines were printed
pub all_text : (ls : List Line) (n : ℕ) (text : List ℕ) → length ls ≤ n → text ≡ body_text (take n ls) → text ≡ body_text ls
all_text ls n text end so = so ∙ ap body_text (take_all n ls end)

pub all_back : (ls : List Line) (n : ℕ) (text : List ℕ) → length ls ≤ n → text ≡ body_text (take n ls) → AreReadBack (take n ls) → lines_in text ≡ Ok ls
all_back ls n text end so all = ap lines_in (all_text ls n text end so) ∙ body_back ls (subst AreReadBack (take_all n ls end) all)
