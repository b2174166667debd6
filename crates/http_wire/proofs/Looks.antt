-- How far the first bytes, at most so many, were looked through, before and behind a read.
use Rattle.std.proofs.Common.{◌≡◌, ℕ, ◌+◌, ◌-◌, ◌≤◌, List, [], ◌∷◌, ◌++◌, length, take, drop, sym, ap, ◌∙◌, subst, arith, append_assoc, length-append}
use Rattle.std.proofs.lemmas.List.{append-nil}
use Rattle.http_message.specs.Ends.{blank_len, HasNoEnd, HasNoEndTo}
use Rattle.http_message.proofs.Growth.{none-append, blank_known}
use Rattle.http_wire.proofs.HeadEnds.{take_front}

window_more : (most : ℕ) (old new more : List ℕ) → new ≡ old ++ more → take most new ≡ take most old ++ take (most - length old) more
window_more most old new more grown = ap (take most) grown ∙ take_front most old more

pub still_within : (most n : ℕ) (old new more : List ℕ) → new ≡ old ++ more → n ≤ length (take most old) → n ≤ length (take most new)
still_within most n old new more grown within =
    omega (arith, within, ap length (window_more most old new more grown), length-append (take most old) (take (most - length old) more))

pub still_blank : (most n : ℕ) (old new more : List ℕ) → new ≡ old ++ more → n ≡ blank_len (take most old)
    → (ys : List ℕ) → n + blank_len (drop n (take most new ++ ys)) ≡ blank_len (take most new ++ ys)
still_blank most n old new more grown is ys =
    let w = take most old in
    let rest = take (most - length old) more in
    let both : take most new ++ ys ≡ w ++ (rest ++ ys) = ap (λ x. x ++ ys) (window_more most old new more grown) ∙ append_assoc w rest ys in
    subst (λ z. n + blank_len (drop n z) ≡ blank_len z) (sym both) (subst (λ k. k + blank_len (drop k (w ++ (rest ++ ys))) ≡ blank_len (w ++ (rest ++ ys))) (sym is) (blank_known w (rest ++ ys)))

-- the empty lines at the front, from those that are known
pub known_here : (front bytes : List ℕ) (n : ℕ) → front ≡ bytes → ((ys : List ℕ) → n + blank_len (drop n (bytes ++ ys)) ≡ blank_len (bytes ++ ys)) → n + blank_len (drop n front) ≡ blank_len front
known_here front bytes n is known = subst (λ z. n + blank_len (drop n z) ≡ blank_len z) (append-nil bytes ∙ sym is) (known [])

pub still_none : (most start n : ℕ) (front old new more : List ℕ) → new ≡ old ++ more → front ≡ take most old → n ≡ length front → HasNoEnd front start → HasNoEndTo (take most new) start n
still_none most start n front old new more grown is all none =
    let w = take most old in
    let rest = take (most - length old) more in
    let here : HasNoEndTo w start n = λ k above to. subst (λ z. HasNoEnd z start) is none k above (omega (arith, to, all, ap length is)) in
    subst (λ z. HasNoEndTo z start n) (sym (window_more most old new more grown)) (none-append w rest start n (omega (arith, all, ap length is)) here)

pub still_no_trailers : (n : ℕ) (front old new more : List ℕ) → new ≡ old ++ more → front ≡ take 16384 old → n ≡ length front → HasNoEnd (10 ∷ front) 1 → HasNoEndTo (10 ∷ take 16384 new) 1 (n + 1)
still_no_trailers n front old new more grown is all none =
    let w = take 16384 old in
    let rest = take (16384 - length old) more in
    let here : HasNoEndTo (10 ∷ w) 1 (n + 1) = λ k above to. subst (λ z. HasNoEnd (10 ∷ z) 1) is none k above (omega (arith, to, all, ap length is)) in
    subst (λ z. HasNoEndTo (10 ∷ z) 1 (n + 1)) (sym (window_more 16384 old new more grown)) (none-append (10 ∷ w) rest 1 (n + 1) (omega (arith, all, ap length is)) here)
