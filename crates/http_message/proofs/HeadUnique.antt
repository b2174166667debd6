-- A stream begins with one head.
use Rattle.std.proofs.Common.{◌≡◌, ℕ, ◌⊎◌, inl, inr, Bool, true, false, List, take, drop, Option, Some, None, refl, sym, ap, ◌∙◌, subst, arith}
use Rattle.std.specs.Bool.{MatchBool}
use Rattle.std.proofs.lemmas.Bool.{cases_lt}
use Rattle.http_message.specs.Ends.{ends_empty, IsFirstEnd, TellsEnd, blank_len}
use Rattle.http_message.specs.HeadReadings.{HeadReading, headed, faulty, ReadsHeadTo, ReadsHead, has_many_lines}
use Rattle.http_message.specs.declared.refusal.Flaw.TheVariants.{BadMessage, HeadTooLarge}

-- ---- where an empty line ends

pub clash : (b : Bool) → b ≡ true → b ≡ false → ⊥
clash b is isnt = cc

first_unique : (bytes : List ℕ) (start m n : ℕ) → IsFirstEnd bytes start m → IsFirstEnd bytes start n → m ≡ n
first_unique bytes start m n p q =
    elim (cases_lt m n) [
      | inl below ↦ absurd (clash (ends_empty bytes m) p.ends (q.first m p.after below))
      | inr over ↦ elim (cases_lt n m) [
        | inl above ↦ absurd (clash (ends_empty bytes n) q.ends (p.first n q.after above))
        | inr under ↦ omega arith
      ]
    ]

pub end_unique : (bytes : List ℕ) (start : ℕ) (f g : Option ℕ) → TellsEnd bytes start f → TellsEnd bytes start g → f ≡ g
end_unique bytes start None None p q = refl
end_unique bytes start None (Some n) p q = absurd (clash (ends_empty bytes n) q.ends (p n q.after q.within))
end_unique bytes start (Some m) None p q = absurd (clash (ends_empty bytes m) p.ends (q m p.after p.within))
end_unique bytes start (Some m) (Some n) p q = ap (λ (k : ℕ). Some k) (first_unique bytes start m n p q)

-- ---- heads of the grammar IsText, in which a text is one head

abbrev OneText : {H : Type 0} → (List ℕ → H → Type 0) → Type 0
OneText {H} IsText = (text : List ℕ) (h k : H) → IsText text h → IsText text k → h ≡ k

abbrev Found : {H : Type 0} → (List ℕ → H → Type 0) → (text rest : List ℕ) → HeadReading H → Type 0
Found {H} IsText text rest x =
    ((head : H) × IsText text head × (x ≡ headed head rest))
    ⊎ (((head : H) → ¬ (IsText text head)) × (x ≡ faulty BadMessage))

found_unique : {H : Type 0} (IsText : List ℕ → H → Type 0) → OneText IsText → (text rest : List ℕ) (x y : HeadReading H) → Found IsText text rest x → Found IsText text rest y → x ≡ y
found_unique IsText one text rest x y (inl p) (inl q) = p.2 ∙ ap (λ h. headed h rest) (one text p.0 q.0 p.1 q.1) ∙ sym q.2
found_unique IsText one text rest x y (inl p) (inr q) = absurd (q.0 p.0 p.1)
found_unique IsText one text rest x y (inr p) (inl q) = absurd (p.0 q.0 q.1)
found_unique IsText one text rest x y (inr p) (inr q) = p.1 ∙ sym q.1

head_by_lines : {H : Type 0} (IsText : List ℕ → H → Type 0) → OneText IsText → (b : Bool) (text rest : List ℕ) (x y u : HeadReading H)
    → MatchBool b (x ≡ u) (Found IsText text rest x) → MatchBool b (y ≡ u) (Found IsText text rest y) → x ≡ y
head_by_lines IsText one true text rest x y u p q = p ∙ sym q
head_by_lines IsText one false text rest x y u p q = found_unique IsText one text rest x y p q

head_to_unique : {H : Type 0} (IsText : List ℕ → H → Type 0) → OneText IsText → (most : ℕ) (stream : List ℕ) (found : Option ℕ) (x y : HeadReading H)
    → ReadsHeadTo IsText most stream found x → ReadsHeadTo IsText most stream found y → x ≡ y
head_to_unique IsText one most stream None x y p q = p ∙ sym q
head_to_unique IsText one most stream (Some end) x y p q = head_by_lines IsText one (has_many_lines (take end stream)) (take end stream) (drop end stream) x y (faulty HeadTooLarge) p q

pub head_unique : {H : Type 0} (IsText : List ℕ → H → Type 0) → OneText IsText → (most : ℕ) (stream : List ℕ) (x y : HeadReading H)
    → ReadsHead IsText most stream x → ReadsHead IsText most stream y → x ≡ y
head_unique IsText one most stream x y p q =
    let same = end_unique (take most stream) (blank_len (take most stream)) p.0 q.0 p.1 q.1 in
    head_to_unique IsText one most stream q.0 x y (subst (λ f. ReadsHeadTo IsText most stream f x) same p.2) q.2
