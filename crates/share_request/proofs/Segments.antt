-- Paths cut at their slashes.
use Rattle.std.proofs.Common.{◌≡◌, ℕ, ◌+◌, ◌<◌, ◌≤◌, List, [], ◌∷◌, length, map, Bool, true, false, cond, ltb, eqb, Option, Some, None, get_or, refl, ap, subst, ◌∙◌, arith, length-drop}
use Rattle.std.specs.List.{position_or_len, before_first, after_first}
use Rattle.std.proofs.lemmas.Bool.{eqb-true, ltb-false, ltb-true}
use Rattle.std.proofs.lemmas.List.Elements.{All-from_get_or}
use Rattle.std.proofs.lemmas.List.Sums.{fails_before_first, passes_at_first}
use Rattle.std.proofs.lemmas.Str.{IsCharBoundary-after_ascii, IsUtf8-drop}
use Rattle.std.specs.Str.{IsUtf8}
use Rattle.std.proofs.lemmas.List.Splits.{slice_split_first, slice_split_none}
use Rattle.signed_link.specs.Reading.{cut}
use Rattle.signed_link.proofs.PartsOf.{same_two}
use Rattle.share_request.specs.Paths.{segment_text, segments_in}

abbrev slash : ℕ → Bool
slash b = eqb b 47

cut_by : (text f r : List ℕ) (test : Bool) → ltb (position_or_len slash text) (length text) ≡ test
    → cond {A = Option (List ℕ × List ℕ)} test (Some (before_first slash text, after_first slash text)) None ≡ Some (f, r)
    → segments_in text ≡ segment_text f ∷ segments_in r
cut_by text f r true is e =
    let pair = same_two _ f _ r e in
    ap (map segment_text) (slice_split_first slash text 0 (ltb-true _ _ is))
    ∙ ap (λ x. segment_text x ∷ segments_in (after_first slash text)) pair.0
    ∙ ap (λ x. segment_text f ∷ segments_in x) pair.1
cut_by text f r false is e = absurd cc

-- the first segment, and the others
pub segments_cut : (text f r : List ℕ) → cut 47 text ≡ Some (f, r) → segments_in text ≡ segment_text f ∷ segments_in r
unfolding cut
segments_cut text f r e = cut_by text f r _ refl e

last_by : (text : List ℕ) (test : Bool) → ltb (position_or_len slash text) (length text) ≡ test
    → cond {A = Option (List ℕ × List ℕ)} test (Some (before_first slash text, after_first slash text)) None ≡ None
    → segments_in text ≡ segment_text text ∷ []
last_by text true is e = absurd cc
last_by text false is e =
    let past : length text ≤ position_or_len slash text = ltb-false _ _ is in
    ap (map segment_text) (slice_split_none slash text (All-from_get_or (λ x. slash x ≡ false) text 0 (λ i within. fails_before_first slash text i 0 (omega arith))))

-- one segment alone
pub segments_last : (text : List ℕ) → cut 47 text ≡ None → segments_in text ≡ segment_text text ∷ []
unfolding cut
segments_last text e = last_by text _ refl e

shorter_by : (text f r : List ℕ) (test : Bool) → ltb (position_or_len slash text) (length text) ≡ test
    → cond {A = Option (List ℕ × List ℕ)} test (Some (before_first slash text, after_first slash text)) None ≡ Some (f, r)
    → length r < length text
shorter_by text f r true is e =
    let pair = same_two _ f _ r e in
    let inside : position_or_len slash text < length text = ltb-true _ _ is in
    let size : length (after_first slash text) ≡ length r = ap length pair.1 in
    omega (arith, size, length-drop (position_or_len slash text + 1) text)
shorter_by text f r false is e = absurd cc

-- what is left is shorter
pub cut_shorter : (text f r : List ℕ) → cut 47 text ≡ Some (f, r) → length r < length text
unfolding cut
cut_shorter text f r e = shorter_by text f r _ refl e

text_by : (text f r : List ℕ) (test : Bool) → ltb (position_or_len slash text) (length text) ≡ test
    → cond {A = Option (List ℕ × List ℕ)} test (Some (before_first slash text, after_first slash text)) None ≡ Some (f, r)
    → IsUtf8 text → IsUtf8 r
text_by text f r true is e utf8 =
    let pair = same_two _ f _ r e in
    let at = position_or_len slash text in
    let inside : at < length text = ltb-true _ _ is in
    let hit : eqb (get_or text at 0) 47 ≡ true = passes_at_first slash text 0 inside in
    let same : get_or text at 0 ≡ 47 = eqb-true (get_or text at 0) 47 hit in
    let low : get_or text at 0 < 128 = omega arith in
    subst IsUtf8 pair.1 (IsUtf8-drop text (at + 1) utf8 (IsCharBoundary-after_ascii text at utf8 inside low))
text_by text f r false is e utf8 = absurd cc

-- what is left is text
pub cut_text : (text f r : List ℕ) → cut 47 text ≡ Some (f, r) → IsUtf8 text → IsUtf8 r
unfolding cut
cut_text text f r e utf8 = text_by text f r _ refl e utf8
