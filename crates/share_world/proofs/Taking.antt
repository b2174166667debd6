-- Whether a log takes a commit.
use Rattle.std.proofs.Common.{◌≡◌, ℕ, ◌+◌, ◌-◌, ◌<◌, ◌≤◌, ◌^◌, ◌&&◌, Bool, true, false, nat_le, List, [], ◌∷◌, ◌++◌, length, Option, Some, None, refl, ap, ◌∙◌, arith, inl, inr, sym, zero-add}
use Rattle.std.specs.Prelude.{is_none, min}
use Rattle.std.proofs.lemmas.Bool.Decides.{leb_tells}
use Rattle.std.proofs.lemmas.List.Sums.{sum_by-append}
use Rattle.log_actions.specs.declared.actions.Action.{Action}
use Rattle.log_actions.specs.CommitTexts.{commit_text, printed_bytes}
use Rattle.log_replay.specs.Standing.{IsSupported}
use Rattle.log_replay.specs.Support.{refusal_of}
use Rattle.log_replay.specs.declared.refusal.ReplayRefusal.{ReplayRefusal}
use Rattle.share_book.specs.Legal.{IsKeptLog}
use Rattle.share_world.specs.Worlds.{takes, with_commit}
use Rattle.share_world.proofs.Choices.{by_false, by_true}

pub printed_push : (log : List (List Action)) (c : List Action) → printed_bytes (log ++ c ∷ []) ≡ printed_bytes log + length (commit_text c)
printed_push log c =
    let sum : printed_bytes (log ++ c ∷ []) ≡ printed_bytes log + (0 + length (commit_text c)) = sum_by-append (λ (a : List Action). length (commit_text a)) log (c ∷ []) in
    sum ∙ ap (λ (n : ℕ). printed_bytes log + n) (zero-add (length (commit_text c)))

le_true : (a b : ℕ) → a ≤ b → nat_le a b ≡ true
le_true a b l = elim (leb_tells a b) [ inl w ↦ w.0 | inr w ↦ (let w1 = w.1 in absurd (omega arith)) ]

le_false : (a b : ℕ) → b < a → nat_le a b ≡ false
le_false a b l = elim (leb_tells a b) [ inl w ↦ (let w1 = w.1 in absurd (omega arith)) | inr w ↦ w.0 ]

and_false : (a b : Bool) → b ≡ false → (a && b) ≡ false
and_false true b e = e
and_false false b e = refl

both : (a b : Bool) → (a && b) ≡ true → (a ≡ true) × (b ≡ true)
both true b e = (refl, e)
both false b e = absurd (cc e)

-- what is taken, by its support and its length
takes_by : (log : List (List Action)) (c : List Action) (o : Option ReplayRefusal) (b : Bool) → refusal_of (log ++ c ∷ []) ≡ o → nat_le (printed_bytes (log ++ c ∷ [])) (2 ^ 26) ≡ b → takes log c ≡ (is_none o && b)
takes_by log c o b p q = λ i. is_none (p i) && q i

pub takes_read : (log : List (List Action)) (c : List Action) → refusal_of (log ++ c ∷ []) ≡ None → printed_bytes (log ++ c ∷ []) ≤ 2 ^ 26 → takes log c ≡ true
takes_read log c read fits = takes_by log c None true read (le_true (printed_bytes (log ++ c ∷ [])) (2 ^ 26) fits)

pub takes_unread : (log : List (List Action)) (c : List Action) (r : ReplayRefusal) → refusal_of (log ++ c ∷ []) ≡ Some r → takes log c ≡ false
takes_unread log c r unread = takes_by log c (Some r) (nat_le (printed_bytes (log ++ c ∷ [])) (2 ^ 26)) unread refl

pub takes_long : (log : List (List Action)) (c : List Action) → 2 ^ 26 < printed_bytes (log ++ c ∷ []) → takes log c ≡ false
takes_long log c long = and_false (is_none (refusal_of (log ++ c ∷ []))) (nat_le (printed_bytes (log ++ c ∷ [])) (2 ^ 26)) (le_false (printed_bytes (log ++ c ∷ [])) (2 ^ 26) long)

pub with_read : (log : List (List Action)) (c : List Action) → takes log c ≡ true → with_commit log c ≡ log ++ c ∷ []
with_read log c e = by_true (takes log c) (log ++ c ∷ []) log e

pub with_unread : (log : List (List Action)) (c : List Action) → takes log c ≡ false → with_commit log c ≡ log
with_unread log c e = by_false (takes log c) (log ++ c ∷ []) log e

-- the length is counted up to 2^64 - 1
pub passes_limit : (log : List (List Action)) (c : List Action) (bytes len : ℕ) → bytes ≡ printed_bytes log → len ≡ min (length (commit_text c)) (2 ^ 64 - 1) → 2 ^ 26 - bytes < len → bytes ≤ 2 ^ 26 → takes log c ≡ false
passes_limit log c bytes len counted is past fits = let sum = printed_push log c in takes_long log c (omega arith)

pub within_limit : (log : List (List Action)) (c : List Action) (bytes len : ℕ) → bytes ≡ printed_bytes log → len ≡ min (length (commit_text c)) (2 ^ 64 - 1) → len ≤ 2 ^ 26 - bytes → bytes ≤ 2 ^ 26 → (printed_bytes (log ++ c ∷ []) ≤ 2 ^ 26) × (len ≡ length (commit_text c))
within_limit log c bytes len counted is less fits = let sum = printed_push log c in (omega arith, omega arith)

le_of : (a b : ℕ) → nat_le a b ≡ true → a ≤ b
le_of a b e = elim (leb_tells a b) [ inl w ↦ w.1 | inr w ↦ absurd (cc (w.0, e)) ]

none_of : (o : Option ReplayRefusal) → is_none o ≡ true → o ≡ None
none_of None e = refl
none_of (Some r) e = absurd (cc e)

supported_push : (log : List (List Action)) (c : List Action) → refusal_of (log ++ c ∷ []) ≡ None → IsSupported (log ++ c ∷ [])
supported_push [] c e = e
supported_push (x ∷ xs) c e = e

-- what a log takes it may keep
pub takes_kept : (log : List (List Action)) (c : List Action) → takes log c ≡ true → IsKeptLog (log ++ c ∷ [])
takes_kept log c e =
    let w = both (is_none (refusal_of (log ++ c ∷ []))) (nat_le (printed_bytes (log ++ c ∷ [])) (2 ^ 26)) e in
    (supported_push log c (none_of (refusal_of (log ++ c ∷ [])) w.0), le_of (printed_bytes (log ++ c ∷ [])) (2 ^ 26) w.1)

-- a test that reads the refusal and the length
pub tested : (log : List (List Action)) (c : List Action) (bytes len : ℕ) (r : Option ReplayRefusal) (a b : Bool) → bytes ≡ printed_bytes log → bytes ≤ 2 ^ 26 → len ≡ min (length (commit_text c)) (2 ^ 64 - 1) → refusal_of (log ++ c ∷ []) ≡ r → a ≡ is_none r → b ≡ nat_le len (2 ^ 26 - bytes) → (a && b) ≡ takes log c
tested log c bytes len r a b counted fits is read x y = elim (leb_tells len (2 ^ 26 - bytes)) [
  | inl w ↦ (let less = w.1 in let most = within_limit log c bytes len counted is less fits in (λ i. x i && (y ∙ w.0 ∙ sym (le_true (printed_bytes (log ++ c ∷ [])) (2 ^ 26) most.0)) i) ∙ sym (takes_by log c r (nat_le (printed_bytes (log ++ c ∷ [])) (2 ^ 26)) read refl))
  | inr w ↦ (let past = w.1 in and_false a b (y ∙ w.0) ∙ sym (passes_limit log c bytes len counted is past fits))
]

-- the length of a commit that is kept is counted whole
pub counted_whole : (log : List (List Action)) (c : List Action) (len : ℕ) → len ≡ min (length (commit_text c)) (2 ^ 64 - 1) → printed_bytes (log ++ c ∷ []) ≤ 2 ^ 26 → len ≡ length (commit_text c)
counted_whole log c len is fits = let sum = printed_push log c in omega arith
