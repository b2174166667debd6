-- The first line of a text.
use Rattle.std.proofs.Common.{◌≡◌, ℕ, ◌+◌, ◌<◌, length, take, drop, get_or, arith, List, [], ◌∷◌, ◌++◌, Bool, false, cond, Option, Some, None, refl, sym, ap, ◌∙◌, subst}
use Rattle.std.specs.Prelude.{◌==◌}
use Rattle.std.specs.List.{All, list_any, onto_first}
use Rattle.std.proofs.lemmas.List.{drop_more, take-append-drop, get_or-take, take_all, length-take}
use Rattle.std.proofs.lemmas.List.Elements.{All-from_get_or}
use Rattle.std.proofs.lemmas.List.Splits.{slice_split_at, slice_split_none}
use Rattle.std.proofs.lemmas.Bool.{false_from_ne_true, or_parts}
use Rattle.memchr.specs.Find.{IsFirstByte, Nowhere, Passes, is_byte}
use Rattle.json_print.specs.Lines.{lines}
use Rattle.json_print.proofs.LineFeeds.{IsFree}

-- no byte up to a place is a line feed
no_feed : (text : List ℕ) (at : ℕ) → Nowhere (Passes (is_byte 10) text) 0 at → All (λ b. (b == 10) ≡ false) (take at text)
no_feed text at nowhere =
    All-from_get_or (λ b. (b == 10) ≡ false) (take at text) 0 (λ i lt.
    let low : i < at = omega (arith, lt, length-take at text) in
    ap (λ b. b == 10) (get_or-take at text i 0 low) ∙ false_from_ne_true (get_or text i 0 == 10) (nowhere i (omega arith) low))

-- a text with a line feed is its first line, and the lines behind that line feed
pub cut_some : (text : List ℕ) (at : ℕ) (found : Option ℕ) → found ≡ Some at → IsFirstByte (is_byte 10) text found → lines text ≡ take at text ∷ lines (drop (at + 1) text)
cut_some text at found is first =
    let here = subst (IsFirstByte (is_byte 10) text) is first in
    let split : text ≡ take at text ++ (get_or text at 0 ∷ drop (at + 1) text) = sym (take-append-drop at text) ∙ ap (λ rest. take at text ++ rest) (drop_more text at 0 here.0.high) in
    ap lines split ∙ slice_split_at (λ b. b == 10) (take at text) (get_or text at 0) (drop (at + 1) text) (no_feed text at here.0.before) here.1

-- a text without a line feed is one line
pub cut_none : (text : List ℕ) (found : Option ℕ) → found ≡ None → IsFirstByte (is_byte 10) text found → lines text ≡ text ∷ []
cut_none text found is first =
    let nowhere = subst (IsFirstByte (is_byte 10) text) is first in
    slice_split_none (λ b. b == 10) text (subst (All (λ b. (b == 10) ≡ false)) (take_all (length text) text (omega arith)) (no_feed text (length text) nowhere))

first_case : (x : ℕ) (b : Bool) (s : List ℕ) (whole rest : List (List ℕ)) → b ≡ false → whole ≡ s ∷ rest → cond b ([] ∷ whole) (onto_first x whole) ≡ (x ∷ s) ∷ rest
first_case x b s whole rest free e = rw (free, e) refl

-- what stands before a line feed is the first line
pub first_line : (s rest : List ℕ) → IsFree s → lines (s ++ 10 ∷ rest) ≡ s ∷ lines rest
first_line [] rest free = refl
first_line (x ∷ s) rest free =
    let parts = or_parts (x == 10) (list_any (λ b. b == 10) s) free in
    first_case x (x == 10) s (lines (s ++ 10 ∷ rest)) (lines rest) parts.0 (first_line s rest parts.1)
