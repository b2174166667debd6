-- The printed body of lines is read as the lines.
use Rattle.std.proofs.Common.{◌≡◌, ℕ, List, [], ◌∷◌, length, Bool, true, false, not, Some, Ok, refl, sym, ap, ◌∙◌, subst, append_assoc}
use Rattle.std.specs.Prelude.{All, ◌&&◌, ◌||◌, filter_map, is_some, nat_lt}
use Rattle.std.specs.List.{cons_option, list_any}
use Rattle.std.proofs.lemmas.List.Elements.{All-head, All-tail}
use Rattle.json_print.specs.Lines.{lines as pieces}
use Rattle.json_print.proofs.Cutting.{first_line}
use Rattle.json_print.proofs.LineFeeds.{text_free}
use Rattle.delta_lines.specs.Bodies.{Printable, delta_line_at, delta_lines_in, is_bad, lines_of_pieces}
use Rattle.delta_lines.specs.Delta.{delta_body_text, delta_line_data, delta_line_text}
use Rattle.delta_lines.proofs.ReadBack.{is_back}
use Rattle.delta_lines.proofs.ReadPieces.{empty_line}
use Rattle.delta_lines.specs.declared.kinds.DeltaLine.{DeltaLine}

-- pieces that stand for lines
record Stand (ls : List DeltaLine) (ps : List (List ℕ)) : Type 0 where
  good : list_any is_bad ps ≡ false
  gives : filter_map delta_line_at ps ≡ ls

not_bad : (b c : Bool) → c ≡ true → (b && not c) ≡ false
not_bad true true e = refl
not_bad false true e = refl
not_bad b false e = cc

first_good : (b rest : Bool) → b ≡ false → rest ≡ false → (b || rest) ≡ false
first_good true rest e f = e
first_good false rest e f = f

one_more : (l : DeltaLine) (ls : List DeltaLine) (ps : List (List ℕ)) → delta_line_at (delta_line_text l) ≡ Some l → Stand ls ps → Stand (l ∷ ls) (delta_line_text l ∷ ps)
one_more l ls ps back rest = record {
  good = first_good (is_bad (delta_line_text l)) (list_any is_bad ps) (not_bad (nat_lt 0 (length (delta_line_text l))) (is_some (delta_line_at (delta_line_text l))) (ap is_some back)) rest.good;
  gives = ap (λ o. cons_option o (filter_map delta_line_at ps)) back ∙ ap (λ more. l ∷ more) rest.gives;
}

body_stands : (ls : List DeltaLine) → All Printable ls → Stand ls (pieces (delta_body_text ls))
body_stands [] all = record { good = refl; gives = ap (λ o. cons_option o []) empty_line }
body_stands (l ∷ ls) all =
    subst (Stand (l ∷ ls)) (sym (ap pieces (append_assoc (delta_line_text l) (10 ∷ []) (delta_body_text ls)) ∙ first_line (delta_line_text l) (delta_body_text ls) (text_free (delta_line_data l))))
    (one_more l ls (pieces (delta_body_text ls)) (is_back l (All-head Printable l ls all)) (body_stands ls (All-tail Printable l ls all)))

stand_for : (ls : List DeltaLine) (ps : List (List ℕ)) → Stand ls ps → lines_of_pieces ps ≡ Ok ls
stand_for ls ps s = rw (s.good, s.gives) refl

pub body_back : (ls : List DeltaLine) → All Printable ls → delta_lines_in (delta_body_text ls) ≡ Ok ls
body_back ls all = stand_for ls (pieces (delta_body_text ls)) (body_stands ls all)
