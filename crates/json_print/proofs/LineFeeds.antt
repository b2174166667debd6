-- A compact text has no line feed, so each printed line is one line.
use Rattle.std.proofs.Common.{◌≡◌, ℕ, zero, suc, ◌+◌, ◌<◌, ◌≤◌, ◌==◌, ◌||◌, ◌/◌, ◌%◌, pos, negsuc, List, [], ◌∷◌, ◌++◌, refl, ◌∙◌, Bool, true, false, cond, arith, tests, nat_lt}
use Rattle.std.specs.List.{list_any}
use Rattle.std.specs.Char.{digit_char}
use Rattle.std.specs.Fmt.{decimal, digits, digits_onto, digit_glyph}
use Rattle.std.proofs.lemmas.Bool.{ne_eqb}
use Rattle.std.proofs.lemmas.List.Folds.{list_any-append}
use Rattle.json.specs.Print.{escape_byte, escape_letter, escape, quoted}
use Rattle.serde_json.specs.Data.{Num, unsigned, negative, float, Data, null, boolean, number, string, array, object, Items, no_items, item, Members, no_members, member}
use Rattle.serde_json.specs.Written.{number_text, compact_text, items_text, members_text, comma_if}

-- without a line feed
abbrev pub IsFree : List ℕ → Type 0
IsFree s = list_any (λ b. b == 10) s ≡ false

both_false : (a b : Bool) → a ≡ false → b ≡ false → (a || b) ≡ false
both_false a b p q = rw (p, q) refl

both : (s t : List ℕ) → IsFree s → IsFree t → IsFree (s ++ t)
both s t p q = list_any-append (λ b. b == 10) s t ∙ both_false _ _ p q

above : (x : ℕ) (s : List ℕ) → 10 < x → IsFree s → IsFree (x ∷ s)
above x s high p = both_false (x == 10) _ (ne_eqb x 10 (λ e. omega arith)) p

glyph_above : (b : Bool) (d : ℕ) → 10 < cond b (48 + d) (87 + d)
glyph_above true d = omega arith
glyph_above false d = omega arith

digits_case : (b : Bool) (g : ℕ) (acc : List ℕ) (more : List ℕ → List ℕ) → 10 < g → IsFree acc → ((next : List ℕ) → IsFree next → IsFree (more next)) → IsFree (cond b (g ∷ acc) (more (g ∷ acc)))
digits_case true g acc more high p rest = above g acc high p
digits_case false g acc more high p rest = rest (g ∷ acc) (above g acc high p)

digits_free : (k n : ℕ) (acc : List ℕ) → IsFree acc → IsFree (digits_onto k 10 false n acc)
digits_free zero n acc p = p
digits_free (suc k) n acc p = digits_case (n / 10 == 0) (digit_glyph false (n % 10)) acc (digits_onto k 10 false (n / 10)) (glyph_above (nat_lt (n % 10) 10) (n % 10)) p (digits_free k (n / 10))

decimal_free : (n : ℕ) → IsFree (decimal n)
unfolding digits
decimal_free n = digits_free 64 n [] refl

number_free : (n : Num) → IsFree (number_text n)
number_free (unsigned n) = decimal_free n
number_free (negative (pos n)) = decimal_free n
number_free (negative (negsuc n)) = decimal_free (suc n)
number_free (float x) = refl

-- the escape of a byte that is none of those with a letter
control_free : (x : ℕ) (b : Bool) → nat_lt x 32 ≡ b → IsFree (cond b (92 ∷ 117 ∷ 48 ∷ 48 ∷ digit_char (x / 16) ∷ digit_char (x % 16) ∷ []) (x ∷ []))
control_free x true e = above (digit_char (x / 16)) (digit_char (x % 16) ∷ []) (glyph_above (nat_lt (x / 16) 10) (x / 16)) (above (digit_char (x % 16)) [] (glyph_above (nat_lt (x % 16) 10) (x % 16)) refl)
control_free x false e = let high : 32 ≤ x = search (arith, tests) in above x [] (omega arith) refl

letter_case : (x l : ℕ) (b : Bool) → nat_lt 0 l ≡ b → (0 < l → 10 < l) → IsFree (cond b (92 ∷ l ∷ []) (cond (nat_lt x 32) (92 ∷ 117 ∷ 48 ∷ 48 ∷ digit_char (x / 16) ∷ digit_char (x % 16) ∷ []) (x ∷ [])))
letter_case x l true e high = let some : 0 < l = search (arith, tests) in above l [] (high some) refl
letter_case x l false e high = control_free x _ refl

letter_free : (x l : ℕ) → (0 < l → 10 < l) → IsFree (cond (nat_lt 0 l) (92 ∷ l ∷ []) (cond (nat_lt x 32) (92 ∷ 117 ∷ 48 ∷ 48 ∷ digit_char (x / 16) ∷ digit_char (x % 16) ∷ []) (x ∷ [])))
letter_free x l high = letter_case x l _ refl high

pick : (b : Bool) (m n : ℕ) → (b ≡ true → 0 < m → 10 < m) → (b ≡ false → 0 < n → 10 < n) → 0 < cond b m n → 10 < cond b m n
pick true m n p q = p refl
pick false m n p q = q refl

mark_case : (x : ℕ) (a b : Bool) → (x == 34) ≡ a → (x == 92) ≡ b → (a || b) ≡ true → 10 < x
mark_case x true b e f g = let is : x ≡ 34 = search (arith, tests) in omega arith
mark_case x false true e f g = let is : x ≡ 92 = search (arith, tests) in omega arith
mark_case x false false e f g = absurd (cc)

letter_high : (x : ℕ) → 0 < escape_letter x → 10 < escape_letter x
letter_high x =
    pick ((x == 34) || (x == 92)) x _ (λ e some. mark_case x (x == 34) (x == 92) refl refl e)
    (λ e. pick (x == 8) 98 _ (λ f some. omega arith)
    (λ f. pick (x == 12) 102 _ (λ g some. omega arith)
    (λ g. pick (x == 10) 110 _ (λ h some. omega arith)
    (λ h. pick (x == 13) 114 _ (λ k some. omega arith)
    (λ k. pick (x == 9) 116 0 (λ m some. omega arith) (λ m some. absurd (omega arith)))))))

byte_free : (x : ℕ) → IsFree (escape_byte x)
unfolding escape_byte
byte_free x = letter_free x (escape_letter x) (letter_high x)

escape_free : (s : List ℕ) → IsFree (escape s)
escape_free [] = refl
escape_free (x ∷ s) = both (escape_byte x) (escape s) (byte_free x) (escape_free s)

quoted_free : (s : List ℕ) → IsFree (quoted s)
quoted_free s = both (escape s) (34 ∷ []) (escape_free s) refl

boolean_free : (b : Bool) → IsFree (compact_text (boolean b))
boolean_free true = refl
boolean_free false = refl

comma_free : (later : Bool) → IsFree (comma_if later)
comma_free true = refl
comma_free false = refl

mutual
  pub text_free : (d : Data) → IsFree (compact_text d)
  text_free null = refl
  text_free (boolean b) = boolean_free b
  text_free (number n) = number_free n
  text_free (string s) = quoted_free s
  text_free (array ds) = items_free false ds
  text_free (object ms) = members_free false ms

  items_free : (later : Bool) (ds : Items) → IsFree (items_text later ds)
  items_free later no_items = refl
  items_free later (item d ds) = both (comma_if later) (compact_text d ++ items_text true ds) (comma_free later) (both (compact_text d) (items_text true ds) (text_free d) (items_free true ds))

  members_free : (later : Bool) (ms : Members) → IsFree (members_text later ms)
  members_free later no_members = refl
  members_free later (member k d ms) =
      both (comma_if later) (quoted k ++ 58 ∷ (compact_text d ++ members_text true ms)) (comma_free later)
      (both (quoted k) (58 ∷ (compact_text d ++ members_text true ms)) (quoted_free k) (both (compact_text d) (members_text true ms) (text_free d) (members_free true ms)))
