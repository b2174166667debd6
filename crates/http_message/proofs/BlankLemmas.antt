-- One step over the empty lines at a place.
use Rattle.std.proofs.Common.{◌≡◌, ◌≢◌, ℕ, ◌+◌, ◌<◌, ◌≤◌, List, [], ◌∷◌, length, get_or, drop, refl, ap, ◌∙◌, arith, add-zero}
use Rattle.std.proofs.lemmas.Bool.Decides.{nat_tests}
use Rattle.std.proofs.lemmas.List.{drop_more, drop_all, get_or-drop, length-drop}
use Rattle.http_message.specs.Ends.{blank_len}

pub after_lf : (b : ℕ) (rest : List ℕ) → b ≡ 10 → blank_len (b ∷ rest) ≡ 1 + blank_len rest
unfolding blank_len
after_lf b [] is = rw is refl
after_lf b (c ∷ rest) is = rw is refl

pub after_crlf : (b c : ℕ) (rest : List ℕ) → b ≡ 13 → c ≡ 10 → blank_len (b ∷ c ∷ rest) ≡ 2 + blank_len rest
unfolding blank_len
after_crlf b c rest cr lf = rw (cr, lf) refl

pub no_blank : (b : ℕ) (rest : List ℕ) → b ≢ 10 → (b ≡ 13 → 0 < length rest → get_or rest 0 0 ≢ 10) → blank_len (b ∷ rest) ≡ 0
unfolding blank_len
no_blank b [] other next = grind (arith, nat_tests)
no_blank b (c ∷ rest) other next = grind (arith, nat_tests, next)

pub no_bytes : blank_len [] ≡ 0
unfolding blank_len
no_bytes = refl

pub blank_at_lf : (bytes : List ℕ) (at : ℕ) → at < length bytes → get_or bytes at 0 ≡ 10 → blank_len (drop at bytes) ≡ 1 + blank_len (drop (at + 1) bytes)
blank_at_lf bytes at within is = ap blank_len (drop_more bytes at 0 within) ∙ after_lf _ _ is

pub blank_at_crlf : (bytes : List ℕ) (at : ℕ) → at + 1 < length bytes → get_or bytes at 0 ≡ 13 → get_or bytes (at + 1) 0 ≡ 10 → blank_len (drop at bytes) ≡ 2 + blank_len (drop (at + 2) bytes)
blank_at_crlf bytes at within cr lf =
    let next : at + 1 + 1 ≡ at + 2 = omega arith in
    let first = drop_more bytes at 0 (omega arith) in
    let second = drop_more bytes (at + 1) 0 within in
    rw (← next) (ap blank_len (first ∙ ap (λ xs. get_or bytes at 0 ∷ xs) second) ∙ after_crlf _ _ _ cr lf)

pub blank_at_end : (bytes : List ℕ) (at : ℕ) → length bytes ≤ at → blank_len (drop at bytes) ≡ 0
blank_at_end bytes at past = ap blank_len (drop_all at bytes past) ∙ no_bytes

pub blank_at_other : (bytes : List ℕ) (at : ℕ) → at < length bytes → get_or bytes at 0 ≢ 10 → (get_or bytes at 0 ≡ 13 → at + 1 < length bytes → get_or bytes (at + 1) 0 ≢ 10) → blank_len (drop at bytes) ≡ 0
blank_at_other bytes at within other next =
    ap blank_len (drop_more bytes at 0 within) ∙ no_blank _ _ other (λ cr some. simp (get_or-drop, add-zero) (next cr (omega (arith, simp length-drop at some))))
