-- Fields keep their names and values as the text grows.
use Rattle.std.proofs.Common.{◌≡◌, ℕ, ◌-◌, ◌≤◌, List, [], ◌∷◌, ◌++◌, length, map, take, drop, refl, ap, ◌∙◌, arith, append_assoc}
use Rattle.std.specs.Prelude.{All, slice_range, Result, Ok, Err, OnErr}
use Rattle.std.proofs.lemmas.List.{drop-append-le, take-append-le, take_all, length-drop, length-append, map-append}
use Rattle.std.proofs.lemmas.List.Elements.{All-tail}
use Rattle.std.proofs.Math.Seq.{drop-append_seam}
use Rattle.http_message.specs.Fields.{field_at, IsWithin}
use Rattle.http_message.specs.declared.field.Place.{Place}

both : {A B C : Type 0} (f : A → B → C) {a x : A} {b y : B} → a ≡ x → b ≡ y → f a b ≡ f x y
both f p q = λ i. f (p i) (q i)

slice_more : (text more : List ℕ) (start end : ℕ) → start ≤ end → end ≤ length text → slice_range (text ++ more) start end ≡ slice_range text start end
slice_more text more start end ordered within =
    ap (take (end - start)) (drop-append-le start text more (omega (arith, ordered, within)))
    ∙ take-append-le (end - start) (drop start text) more (omega (arith, length-drop start text, within))

-- what was put behind a text
slice_behind : (text more : List ℕ) → slice_range (text ++ more) (length text) (length (text ++ more)) ≡ more
slice_behind text more =
    ap (take (length (text ++ more) - length text)) (drop-append_seam text more)
    ∙ take_all (length (text ++ more) - length text) more (omega (arith, length-append text more))

field_more : (text more : List ℕ) (p : Place) → IsWithin (length text) p → field_at (text ++ more) p ≡ field_at text p
field_more text more p is =
    both (λ a b. (a, b)) (slice_more text more p.start p.middle is.name (omega (arith, is.value, is.text))) (slice_more text more p.middle p.end is.value is.text)

pub fields_more : (text more : List ℕ) (places : List Place) → All (IsWithin (length text)) places → map (field_at (text ++ more)) places ≡ map (field_at text) places
fields_more text more [] are = refl
fields_more text more (p ∷ places) are =
    both (λ x xs. x ∷ xs) (field_more text more p (are 0 p (omega arith))) (fields_more text more places (All-tail (IsWithin (length text)) p places are))

pub by_err : {X E : Type 0} (r : Result X E) (P : Type 0) → P → OnErr r P
by_err (Ok x) P p = tt
by_err (Err e) P p = p

-- a name and a value behind the text, and their place
pub field_behind : (text name value : List ℕ) (p : Place) → p.start ≡ length text → p.middle ≡ length (text ++ name) → p.end ≡ length ((text ++ name) ++ value)
    → field_at ((text ++ name) ++ value) p ≡ (name, value)
field_behind text name value p start middle end =
    let named : slice_range ((text ++ name) ++ value) p.start p.middle ≡ name =
    slice_more (text ++ name) value p.start p.middle (omega (arith, start, middle, length-append text name)) (omega (arith, middle))
    ∙ both (slice_range (text ++ name)) start middle ∙ slice_behind text name in
    let valued : slice_range ((text ++ name) ++ value) p.middle p.end ≡ value =
    both (slice_range ((text ++ name) ++ value)) middle end ∙ slice_behind (text ++ name) value in
    both (λ a b. (a, b)) named valued

pub kept : (text name value : List ℕ) (places : List Place) → All (IsWithin (length text)) places → map (field_at ((text ++ name) ++ value)) places ≡ map (field_at text) places
kept text name value places are =
    ap (λ t. map (field_at t) places) (append_assoc text name value) ∙ fields_more text (name ++ value) places are

pub pushed : (text name value : List ℕ) (places : List Place) (p : Place) → All (IsWithin (length text)) places
    → p.start ≡ length text → p.middle ≡ length (text ++ name) → p.end ≡ length ((text ++ name) ++ value)
    → map (field_at ((text ++ name) ++ value)) (places ++ p ∷ []) ≡ map (field_at text) places ++ (name, value) ∷ []
pushed text name value places p are start middle end =
    map-append (field_at ((text ++ name) ++ value)) places (p ∷ [])
    ∙ both (λ xs x. xs ++ x ∷ []) (kept text name value places are) (field_behind text name value p start middle end)
