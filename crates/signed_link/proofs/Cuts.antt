-- Texts cut at a character, and behind a front.
use Rattle.std.proofs.Common.{◌≡◌, ◌≢◌, ℕ, ◌+◌, ◌<◌, List, [], ◌∷◌, ◌++◌, length, drop, All, true, false, eqb, ltb, Some, None, refl, ap, sym, ◌∙◌, append_assoc, arith, length-append}
use Rattle.std.specs.List.{position_or_len, before_first, after_first, starts_with}
use Rattle.std.proofs.lemmas.Bool.{eq-eqb, ne_eqb, lt-ltb, false_from_ne_true}
use Rattle.std.proofs.lemmas.Bool.Decides.{Decides-eqb}
use Rattle.std.proofs.lemmas.List.{take_at, drop_at}
use Rattle.std.proofs.lemmas.List.Elements.{All-head, All-tail}
use Rattle.std.proofs.lemmas.Slice.Eq.{starts_is}
use Rattle.signed_link.specs.Reading.{cut, after, value_in}

cut_found : (c : ℕ) (text front rest : List ℕ) → position_or_len (λ b. eqb b c) text < length text
    → front ≡ before_first (λ b. eqb b c) text → rest ≡ after_first (λ b. eqb b c) text → cut c text ≡ Some (front, rest)
unfolding cut
cut_found c text front rest inside is_front is_rest =
    let test : ltb (position_or_len (λ b. eqb b c) text) (length text) ≡ true = lt-ltb _ _ inside in
    rw (test, is_front, is_rest) refl

at_first : (c : ℕ) (f rest : List ℕ) → All (λ b. b ≢ c) f → position_or_len (λ b. eqb b c) (f ++ c ∷ rest) ≡ length f
at_first c [] rest free = rw (eq-eqb c c refl) refl
at_first c (b ∷ bs) rest free =
    let other : eqb b c ≡ false = ne_eqb b c (All-head (λ x. x ≢ c) b bs free) in
    let more = at_first c bs rest (All-tail (λ x. x ≢ c) b bs free) in
    rw (other, more) (omega arith)

past : (c n : ℕ) (f rest : List ℕ) → n ≡ length f → drop (n + 1) (f ++ c ∷ rest) ≡ rest
past c n f rest e =
    ap (drop (n + 1)) (sym (append_assoc f (c ∷ []) rest)) ∙ drop_at (f ++ c ∷ []) rest (n + 1) (omega (arith, length-append f (c ∷ [])))

inside : (c n : ℕ) (f rest : List ℕ) → n ≡ length f → n < length (f ++ c ∷ rest)
inside c n f rest e = omega (arith, length-append f (c ∷ rest))

-- what stands before the first such character is read, whatever follows it
pub cut_again : (c : ℕ) (f rest : List ℕ) → All (λ b. b ≢ c) f → cut c (f ++ c ∷ rest) ≡ Some (f, rest)
cut_again c f rest free =
    let at = at_first c f rest free in
    cut_found c (f ++ c ∷ rest) f rest (inside c (position_or_len (λ b. eqb b c) (f ++ c ∷ rest)) f rest at)
    (sym (take_at f (c ∷ rest) (position_or_len (λ b. eqb b c) (f ++ c ∷ rest)) (sym at)))
    (sym (past c (position_or_len (λ b. eqb b c) (f ++ c ∷ rest)) f rest at))

pub after_again : (front text rest : List ℕ) → text ≡ front ++ rest → after front text ≡ Some rest
unfolding after
after_again front text rest e =
    let starts : starts_with eqb text front ≡ true = (starts_is Decides-eqb text front _ refl).1 rest e in
    let back : drop (length front) text ≡ rest = ap (drop (length front)) e ∙ drop_at front rest (length front) refl in
    rw (starts, back) refl

pub after_none : (front text : List ℕ) → ((rest : List ℕ) → text ≢ front ++ rest) → after front text ≡ None
unfolding after
after_none front text none =
    let no : starts_with eqb text front ≡ false = false_from_ne_true _ (λ e. none _ ((starts_is Decides-eqb text front _ refl).0 e)) in
    rw no refl

pub value_again : (name value rest : List ℕ) → All (λ b. b ≢ 38) value → value_in name (name ++ (value ++ 38 ∷ rest)) ≡ Some (value, rest)
unfolding value_in
value_again name value rest free =
    rw (after_again name (name ++ (value ++ 38 ∷ rest)) (value ++ 38 ∷ rest) refl) (cut_again 38 value rest free)
