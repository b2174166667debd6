-- What one edit more changes of the last words, of the counts and of what was ever made.
use Rattle.std.proofs.Common.{◌≡◌, ◌+◌, List, [], ◌∷◌, ◌++◌, Bool, true, false, cond, ◌||◌, not, Option, Some, None, refl, ap, ◌∙◌, length, arith}
use Rattle.std.specs.Prelude.{filter, filter_map, count_by}
use Rattle.std.specs.List.{last_or, list_any, cons_option}
use Rattle.std.proofs.lemmas.List.{append-nil, length-append}
use Rattle.std.proofs.lemmas.List.Elements.{filter-append, filter_map-append}
use Rattle.std.proofs.lemmas.List.Folds.{list_any-append}
use Rattle.std.proofs.lemmas.List.Sums.{sum_by_push}
use Rattle.std.proofs.lemmas.Map.Views.{any-filter_same}
use Rattle.share_catalog.specs.declared.edit.Edit.{Edit}
use Rattle.share_catalog.specs.Catalogue.{distinct, last_word}

-- the edits with one more
abbrev pub more : List Edit → Edit → List Edit
more edits e = edits ++ e ∷ []

abbrev pub latest : {X : Type 0} → Option X → Option X → Option X
latest None old = old
latest (Some x) old = Some x

last_or-append : {X : Type 0} (o : Option X) (xs ys : List X) → last_or o (xs ++ ys) ≡ last_or (last_or o xs) ys
last_or-append o [] ys = refl
last_or-append o (x ∷ xs) ys = last_or-append (Some x) xs ys

last_case : {X : Type 0} (o w : Option X) → last_or w (cons_option o []) ≡ latest o w
last_case None w = refl
last_case (Some x) w = refl

pub last_word-more : {X : Type 0} (says : Edit → Option X) (edits : List Edit) (e : Edit) → last_word says (more edits e) ≡ latest (says e) (last_word says edits)
last_word-more says edits e =
    ap (last_or None) (filter_map-append says edits (e ∷ [])) ∙ last_or-append None (filter_map says edits) (cons_option (says e) []) ∙ last_case (says e) (last_word says edits)

pub quiet_word : {X : Type 0} (says : Edit → Option X) (edits : List Edit) (e : Edit) → says e ≡ None → last_word says (more edits e) ≡ last_word says edits
quiet_word says edits e none = last_word-more says edits e ∙ ap (λ o. latest o (last_word says edits)) none

pub new_word : {X : Type 0} (says : Edit → Option X) (edits : List Edit) (e : Edit) (x : X) → says e ≡ Some x → last_word says (more edits e) ≡ Some x
new_word says edits e x some = last_word-more says edits e ∙ ap (λ o. latest o (last_word says edits)) some

pub count_same : (p : Edit → Bool) (edits : List Edit) (e : Edit) → p e ≡ false → count_by p (more edits e) ≡ count_by p edits
count_same p edits e never = sum_by_push (λ x. cond (p x) 1 0) edits e ∙ ap (λ b. count_by p edits + cond b 1 0) never ∙ omega arith

pub count_grows : (p : Edit → Bool) (edits : List Edit) (e : Edit) → p e ≡ true → count_by p (more edits e) ≡ count_by p edits + 1
count_grows p edits e always = sum_by_push (λ x. cond (p x) 1 0) edits e ∙ ap (λ b. count_by p edits + cond b 1 0) always

abbrev pub any_in : {X : Type 0} → (X → Bool) → Option X → Bool
any_in p None = false
any_in p (Some x) = p x

any_case : {X : Type 0} (p : X → Bool) (o : Option X) → list_any p (cons_option o []) ≡ any_in p o
any_case p None = refl
any_case p (Some x) = elim (p x) as (λ b. (b || false) ≡ b) [ true ↦ refl | false ↦ refl ]

pub known_more : {X : Type 0} (p : X → Bool) (f : Edit → Option X) (edits : List Edit) (e : Edit) → list_any p (filter_map f (more edits e)) ≡ (list_any p (filter_map f edits) || any_in p (f e))
known_more p f edits e =
    ap (list_any p) (filter_map-append f edits (e ∷ [])) ∙ list_any-append p (filter_map f edits) (cons_option (f e) []) ∙ ap (λ b. list_any p (filter_map f edits) || b) (any_case p (f e))

or_false : (b : Bool) → (b || false) ≡ b
or_false true = refl
or_false false = refl

or_true : (b : Bool) → (b || true) ≡ true
or_true true = refl
or_true false = refl

pub known_same : {X : Type 0} (p : X → Bool) (f : Edit → Option X) (edits : List Edit) (e : Edit) → any_in p (f e) ≡ false → list_any p (filter_map f (more edits e)) ≡ list_any p (filter_map f edits)
known_same p f edits e never = known_more p f edits e ∙ ap (λ b. list_any p (filter_map f edits) || b) never ∙ or_false _

pub known_now : {X : Type 0} (p : X → Bool) (f : Edit → Option X) (edits : List Edit) (e : Edit) → any_in p (f e) ≡ true → list_any p (filter_map f (more edits e)) ≡ true
known_now p f edits e always = known_more p f edits e ∙ ap (λ b. list_any p (filter_map f edits) || b) always ∙ or_true _

pub made_same : {X : Type 0} (f : Edit → Option X) (edits : List Edit) (e : Edit) → f e ≡ None → filter_map f (more edits e) ≡ filter_map f edits
made_same f edits e none = filter_map-append f edits (e ∷ []) ∙ ap (λ o. filter_map f edits ++ cons_option o []) none ∙ append-nil (filter_map f edits)

pub made_more : {X : Type 0} (f : Edit → Option X) (edits : List Edit) (e : Edit) (x : X) → f e ≡ Some x → filter_map f (more edits e) ≡ filter_map f edits ++ x ∷ []
made_more f edits e x some = filter_map-append f edits (e ∷ []) ∙ ap (λ o. filter_map f edits ++ cons_option o []) some

distinct_known : {X : Type 0} (eq : X → X → Bool) (y x : X) (ds : List X) (c : Bool)
    → y ∷ filter (λ z. not (eq y z)) ds ≡ cond (c || true) (y ∷ filter (λ z. not (eq y z)) ds) ((y ∷ filter (λ z. not (eq y z)) ds) ++ x ∷ [])
distinct_known eq y x ds true = refl
distinct_known eq y x ds false = refl

kept : {X : Type 0} (c : Bool) (y x : X) (fs : List X) → y ∷ (fs ++ cond (not c) (x ∷ []) []) ≡ cond (c || false) (y ∷ fs) ((y ∷ fs) ++ x ∷ [])
kept true y x fs = ap (λ r. y ∷ r) (append-nil fs)
kept false y x fs = refl

distinct_step : {X : Type 0} (eq : X → X → Bool) (y x : X) (ds : List X) (b : Bool)
    → y ∷ filter (λ z. not (eq y z)) (cond b ds (ds ++ x ∷ []))
    ≡ cond (eq y x || b) (y ∷ filter (λ z. not (eq y z)) ds) ((y ∷ filter (λ z. not (eq y z)) ds) ++ x ∷ [])
distinct_step eq y x ds true = distinct_known eq y x ds (eq y x)
distinct_step eq y x ds false = ap (λ r. y ∷ r) (filter-append (λ z. not (eq y z)) ds (x ∷ [])) ∙ kept (eq y x) y x (filter (λ z. not (eq y z)) ds)

-- one element more is new where no element before equals it
pub distinct_more : {X : Type 0} (eq : X → X → Bool) (xs : List X) (x : X) → distinct eq (xs ++ x ∷ []) ≡ cond (list_any (λ y. eq y x) xs) (distinct eq xs) (distinct eq xs ++ x ∷ [])
distinct_more eq [] x = refl
distinct_more eq (y ∷ ys) x = ap (λ r. y ∷ filter (λ z. not (eq y z)) r) (distinct_more eq ys x) ∙ distinct_step eq y x (distinct eq ys) (list_any (λ y. eq y x) ys)

pub any_same : {X : Type 0} (p q : X → Bool) → ((x : X) → p x ≡ q x) → (xs : List X) → list_any p xs ≡ list_any q xs
any_same p q same [] = refl
any_same p q same (x ∷ xs) = rw (same x, any_same p q same xs) refl

length_case : {X : Type 0} (b : Bool) (xs : List X) (x : X) → length (cond b xs (xs ++ x ∷ [])) ≡ cond b (length xs) (length xs + 1)
length_case true xs x = refl
length_case false xs x = length-append xs (x ∷ [])

-- so many distinct elements there are with one more
pub distinct_length : {X : Type 0} (eq : X → X → Bool) → ((x y : X) → eq x y ≡ eq y x) → (xs : List X) (x : X)
    → length (distinct eq (xs ++ x ∷ [])) ≡ cond (list_any (eq x) xs) (length (distinct eq xs)) (length (distinct eq xs) + 1)
distinct_length eq symmetric xs x =
    ap length (distinct_more eq xs x) ∙ length_case (list_any (λ y. eq y x) xs) (distinct eq xs) x
    ∙ ap (λ b. cond b (length (distinct eq xs)) (length (distinct eq xs) + 1)) (any_same (λ y. eq y x) (eq x) (λ y. symmetric y x) xs)

any_step : (a b c : Bool) → (a ≡ false → b ≡ c) → (a || b) ≡ (a || c)
any_step true b c f = refl
any_step false b c f = f refl

-- what passes a test passes it among the distinct elements too
pub any-distinct : {X : Type 0} (eq : X → X → Bool) (p : X → Bool) → ((x y : X) → p x ≡ false → p y ≡ true → eq x y ≡ false) → (xs : List X) → list_any p (distinct eq xs) ≡ list_any p xs
any-distinct eq p apart [] = refl
any-distinct eq p apart (x ∷ xs) =
    any_step (p x) _ _ (λ no. any-filter_same p (λ y. not (eq x y)) true (λ y yes. ap not (apart x y no yes)) (distinct eq xs) ∙ any-distinct eq p apart xs)
