-- What is found in the front of a stream stands in the stream.
use Rattle.std.proofs.Common.{◌≡◌, ℕ, suc, ◌+◌, ◌-◌, ◌<◌, ◌≤◌, ⊎_elim, inl, inr, List, [], ◌∷◌, ◌++◌, length, take, drop, sym, ap, ◌∙◌, arith, length-append, append_assoc, zero-add}
use Rattle.std.proofs.lemmas.Bool.{cases_eq, cases_Bool}
use Rattle.std.proofs.lemmas.List.{take-append-le, take-append-drop}
use Rattle.std.proofs.Math.Seq.{take-append_seam}
use Rattle.httparse.specs.Grammar.{ChunkLine, print_chunk_line}
use Rattle.http_message.specs.Ends.{blank_len, ends_empty, HasNoEnd, HasNoEndTo, IsFirstEnd}
use Rattle.http_message.specs.Lines.{IsLineAt, IsBadLine}
use Rattle.http_message.proofs.BlankLemmas.{after_lf, after_crlf, no_blank, no_bytes}
use Rattle.http_message.proofs.CutFacts.{front_of, after_blank, ends_empty-append, ends_after_lf}

pub first_end-append : (xs ys : List ℕ) (start end : ℕ) → IsFirstEnd xs start end → IsFirstEnd (xs ++ ys) start end
first_end-append xs ys start end found =
    record {
      after = found.after;
      within = omega (arith, found.within, length-append xs ys);
      ends = ends_empty-append xs ys end found.within ∙ found.ends;
      first = λ n above below. ends_empty-append xs ys n (omega (arith, found.within)) ∙ found.first n above below;
    }

pub none-append : (xs ys : List ℕ) (start n : ℕ) → n ≤ length xs → HasNoEndTo xs start n → HasNoEndTo (xs ++ ys) start n
none-append xs ys start n within none = λ k above to. ends_empty-append xs ys k (omega arith) ∙ none k above to

-- where fewer than two bytes stand behind the empty lines, no head ends
pub no_room : (xs : List ℕ) → length xs < blank_len xs + 2 → HasNoEnd xs (blank_len xs)
no_room xs small = λ k above to.
    ⊎_elim
    (λ yes.
    let place : k - 1 ≡ blank_len xs = omega arith in
    absurd (after_blank xs (omega arith) (rw place at (ends_after_lf xs k yes))))
    (λ no. no)
    (cases_Bool (ends_empty xs k))

-- ---- the empty lines of more bytes

abbrev Splits : List ℕ → List ℕ → Type 0
Splits xs ys = blank_len (xs ++ ys) ≡ blank_len xs + blank_len (drop (blank_len xs) (xs ++ ys))

split_none : (xs ys : List ℕ) → blank_len xs ≡ 0 → Splits xs ys
split_none xs ys none = rw none (sym (zero-add (blank_len (xs ++ ys))))

split_lf : (b : ℕ) (tail ys : List ℕ) → b ≡ 10 → Splits tail ys → Splits (b ∷ tail) ys
split_lf b tail ys is behind =
    let e : blank_len (b ∷ tail) ≡ suc (blank_len tail) = omega (arith, after_lf b tail is) in
    let f : blank_len (b ∷ (tail ++ ys)) ≡ 1 + blank_len (tail ++ ys) = after_lf b (tail ++ ys) is in
    rw e (omega (arith, f, behind))

split_crlf : (b c : ℕ) (tail ys : List ℕ) → b ≡ 13 → c ≡ 10 → Splits tail ys → Splits (b ∷ c ∷ tail) ys
split_crlf b c tail ys cr lf behind =
    let e : blank_len (b ∷ c ∷ tail) ≡ suc (suc (blank_len tail)) = omega (arith, after_crlf b c tail cr lf) in
    let f : blank_len (b ∷ c ∷ (tail ++ ys)) ≡ 2 + blank_len (tail ++ ys) = after_crlf b c (tail ++ ys) cr lf in
    rw e (omega (arith, f, behind))

pub blank_split : (xs ys : List ℕ) → blank_len (xs ++ ys) ≡ blank_len xs + blank_len (drop (blank_len xs) (xs ++ ys))
blank_split [] ys = split_none [] ys no_bytes
blank_split (b ∷ []) ys =
    ⊎_elim
    (λ is. split_lf b [] ys is (blank_split [] ys))
    (λ other. split_none (b ∷ []) ys (no_blank b [] other (λ _ some. absurd (omega arith))))
    (cases_eq b 10)
blank_split (b ∷ c ∷ rest) ys =
    ⊎_elim
    (λ is. split_lf b (c ∷ rest) ys is (blank_split (c ∷ rest) ys))
    (λ others. ⊎_elim
    (λ pair. split_crlf b c rest ys pair.0 pair.1 (blank_split rest ys))
    (λ text. split_none (b ∷ c ∷ rest) ys (no_blank b (c ∷ rest) text.0 (λ cr _. text.1 cr)))
    others)
    (front_of b c)

-- the empty lines of a front are empty lines of what it is the front of
pub blank_known : (xs ys : List ℕ) → blank_len xs + blank_len (drop (blank_len xs) (xs ++ ys)) ≡ blank_len (xs ++ ys)
blank_known xs ys = sym (blank_split xs ys)

-- ---- lines in front of chunks

pub line-append : (xs ys : List ℕ) (l : ChunkLine) (rest : List ℕ) → IsLineAt xs l rest → IsLineAt (xs ++ ys) l (rest ++ ys)
line-append xs ys l rest is =
    record { valid = is.valid; short = is.short; spelled = ap (λ x. x ++ ys) is.spelled ∙ append_assoc (print_chunk_line l) rest ys }

front : (xs ys text rest : List ℕ) → xs ++ ys ≡ text ++ rest → length text ≤ length xs → xs ≡ text ++ drop (length text) xs
front xs ys text rest e fits =
    let taken : take (length text) xs ≡ text =
    sym (take-append-le (length text) xs ys fits) ∙ ap (take (length text)) e ∙ take-append_seam text rest in
    sym (take-append-drop (length text) xs) ∙ ap (λ x. x ++ drop (length text) xs) taken

pub bad-append : (xs ys : List ℕ) → IsBadLine xs → IsBadLine (xs ++ ys)
bad-append xs ys (inl never) = inl (λ more l rest reads. never (ys ++ more) l rest (rw append_assoc at reads))
bad-append xs ys (inr long) =
    inr (record {
      long = omega (arith, long.long, length-append xs ys);
      none = λ l rest is.
          long.none l (drop (length (print_chunk_line l)) xs)
          (record { valid = is.valid; short = is.short; spelled = front xs ys (print_chunk_line l) rest is.spelled (omega (arith, is.short, long.long)) });
    })
