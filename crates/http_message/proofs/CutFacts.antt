-- What is found in the front of a stream is found in the stream.
use Rattle.std.proofs.Common.{◌≡◌, ◌≢◌, ℕ, suc, ◌+◌, ◌-◌, ◌<◌, ◌≤◌, ◌⊎◌, ⊎_elim, inl, inr, true, List, [], ◌∷◌, ◌++◌, length, get_or, refl, sym, ◌∙◌, arith, length-append}
use Rattle.std.proofs.lemmas.Bool.{cases_eq}
use Rattle.std.proofs.lemmas.Bool.Decides.{nat_tests}
use Rattle.std.proofs.lemmas.List.{get_or_append_left}
use Rattle.http_message.specs.Ends.{blank_len, ends_empty, IsFirstEnd}
use Rattle.http_message.proofs.BlankLemmas.{after_lf, after_crlf, no_blank}

-- the ways in which two bytes can stand at the front
abbrev pub Front : ℕ → ℕ → Type 0
Front b c = (b ≡ 10) ⊎ (((b ≡ 13) × (c ≡ 10)) ⊎ ((b ≢ 10) × (b ≡ 13 → c ≢ 10)))

pub front_of : (b c : ℕ) → Front b c
front_of b c =
    ⊎_elim (λ is. inl is)
    (λ other. ⊎_elim
    (λ cr. ⊎_elim (λ feed. inr (inl (cr, feed))) (λ no. inr (inr (other, λ _. no))) (cases_eq c 10))
    (λ no. inr (inr (other, λ cr. absurd (no cr))))
    (cases_eq b 13))
    (cases_eq b 10)

at_text : (b : ℕ) (rest : List ℕ) → b ≢ 10 → (b ≡ 13 → 0 < length rest → get_or rest 0 0 ≢ 10) → get_or (b ∷ rest) (blank_len (b ∷ rest)) 0 ≢ 10
at_text b rest other next = rw (no_blank b rest other next) other

-- the byte after the empty lines is no line feed
pub after_blank : (xs : List ℕ) → blank_len xs < length xs → get_or xs (blank_len xs) 0 ≢ 10
after_blank [] h = absurd (omega arith)
after_blank (b ∷ []) h =
    ⊎_elim (λ is. absurd (omega (arith, after_lf b [] is)))
    (λ other. at_text b [] other (λ _ some. absurd (omega arith)))
    (cases_eq b 10)
after_blank (b ∷ c ∷ rest) h =
    ⊎_elim
    (λ is.
    let e : blank_len (b ∷ c ∷ rest) ≡ suc (blank_len (c ∷ rest)) = omega (arith, after_lf b (c ∷ rest) is) in
    rw e (after_blank (c ∷ rest) (omega (arith, h, e))))
    (λ others. ⊎_elim
    (λ pair.
    let e : blank_len (b ∷ c ∷ rest) ≡ suc (suc (blank_len rest)) = omega (arith, after_crlf b c rest pair.0 pair.1) in
    rw e (after_blank rest (omega (arith, h, e))))
    (λ text. at_text b (c ∷ rest) text.0 (λ cr _. text.1 cr))
    others)
    (front_of b c)

pub blank_len-append : (xs ys : List ℕ) → blank_len xs + 2 ≤ length xs → blank_len (xs ++ ys) ≡ blank_len xs
blank_len-append [] ys h = absurd (omega arith)
blank_len-append (b ∷ []) ys h = absurd (omega arith)
blank_len-append (b ∷ c ∷ rest) ys h =
    ⊎_elim
    (λ is.
    let e = after_lf b (c ∷ rest) is in
    let f = after_lf b (c ∷ (rest ++ ys)) is in
    let more = blank_len-append (c ∷ rest) ys (omega (arith, h, e)) in
    omega (arith, e, f, more))
    (λ others. ⊎_elim
    (λ pair.
    let e = after_crlf b c rest pair.0 pair.1 in
    let f = after_crlf b c (rest ++ ys) pair.0 pair.1 in
    let more = blank_len-append rest ys (omega (arith, h, e)) in
    omega (arith, e, f, more))
    (λ text. no_blank b (c ∷ (rest ++ ys)) text.0 (λ cr _. text.1 cr) ∙ sym (no_blank b (c ∷ rest) text.0 (λ cr _. text.1 cr)))
    others)
    (front_of b c)

pub ends_empty-append : (xs ys : List ℕ) (n : ℕ) → n ≤ length xs → ends_empty (xs ++ ys) n ≡ ends_empty xs n
ends_empty-append xs ys n within =
    ⊎_elim
    (λ none. rw none refl)
    (λ some.
    let a : get_or (xs ++ ys) (n - 1) 0 ≡ get_or xs (n - 1) 0 = get_or_append_left xs ys 0 (n - 1) (omega arith) in
    let b : get_or (xs ++ ys) (n - 2) 0 ≡ get_or xs (n - 2) 0 = get_or_append_left xs ys 0 (n - 2) (omega arith) in
    let c : get_or (xs ++ ys) (n - 3) 0 ≡ get_or xs (n - 3) 0 = get_or_append_left xs ys 0 (n - 3) (omega arith) in
    rw (a, b, c) refl)
    (cases_eq n 0)

pub ends_after_lf : (xs : List ℕ) (n : ℕ) → ends_empty xs n ≡ true → get_or xs (n - 1) 0 ≡ 10
ends_after_lf xs n ends = grind (arith, nat_tests)

-- the first end in a front of a stream is the first end in the stream
pub head_end-append : (xs ys : List ℕ) (end : ℕ) → IsFirstEnd xs (blank_len xs) end → IsFirstEnd (xs ++ ys) (blank_len (xs ++ ys)) end
head_end-append xs ys end found =
    let feed = ends_after_lf xs end found.ends in
    let differs : ¬ (end - 1 ≡ blank_len xs) = λ same. after_blank xs (omega (arith, found.after, found.within)) (rw same at feed) in
    let room : blank_len xs + 2 ≤ length xs = omega (arith, found.after, found.within, differs) in
    let start = blank_len-append xs ys room in
    record {
      after = rw start found.after;
      within = omega (arith, found.within, length-append xs ys);
      ends = ends_empty-append xs ys end found.within ∙ found.ends;
      first = λ n above below.
          ends_empty-append xs ys n (omega (arith, found.within)) ∙ found.first n (rw start at above) below;
    }
