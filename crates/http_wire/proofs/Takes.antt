-- Bytes of a given number, and bytes to the end, that went behind a body.
use Rattle.std.proofs.Common.{◌≡◌, ℕ, ◌+◌, ◌-◌, ◌<◌, ◌≤◌, List, [], ◌++◌, length, Option, Result, refl, sym, ap, ◌∙◌, arith, append_assoc, length-append}
use Rattle.std.proofs.lemmas.List.{append-nil}
use Rattle.http_wire.specs.Fills.{GoesBehind, MovesSome}
use Rattle.http_wire.specs.Streams.{Buffer, Drew}
use Rattle.http_wire.specs.declared.inbox.Filled.{Filled}
use Rattle.http_wire.specs.declared.inbox.Halt.{Halt}
use Rattle.http_wire.proofs.Streams.{draws_none, draws_then}

-- so far so many bytes went behind the body, and so many are left
abbrev pub Taking : {S : Type 0} → (S → Option (List ℕ)) → (size k : ℕ) → (body body_new : List ℕ) → (a b : Buffer) → (s t : S) → Type 0
Taking left size k body body_new a b s t = Drew left (λ x. length x < size) a b s t (λ used. (body_new ≡ body ++ used) × (length used + k ≡ size))

pub taking_none : {S : Type 0} (left : S → Option (List ℕ)) (size : ℕ) (body : List ℕ) (a : Buffer) (s : S) → Taking left size size body body a a s s
taking_none left size body a s = ([], [], draws_none left (λ x. length x < size) a a s s refl refl, (sym (append-nil body), omega arith))

abbrev pub Some_moved : {S : Type 0} → (S → Option (List ℕ)) → ℕ → (body body_new : List ℕ) → (a b : Buffer) → (s t : S) → Result Filled Halt → Type 0
Some_moved left most body body_new a b s t r = Drew left (λ x. x ≡ []) a b s t (λ used. GoesBehind most body body_new used × MovesSome used b.0 (left t) r)

-- some bytes more, behind those that were used before
pub taking_more : {S : Type 0} (left : S → Option (List ℕ)) (size k : ℕ) (body mid body_new : List ℕ) (a b c : Buffer) (s t v : S) (r : Result Filled Halt) → 0 < k → Taking left size k body mid a b s t
    → Some_moved left k mid body_new b c t v r
    → Drew left (λ x. length x < size) a c s v (λ used. (body_new ≡ body ++ used) × (length used + length mid ≡ size - k + length body_new) × (length used ≤ size) × (k ≤ size) × (w : List ℕ) × (length used ≡ size - k + length w) × MovesSome w c.0 (left v) r)
taking_more left size k body mid body_new a b c s t v r some first second =
    let u = first.1 in
    let w = second.1 in
    let grown = second.3.0.grown in
    let sized = length-append mid w in (
      first.0 ++ second.0,
      u ++ w,
      draws_then left (λ x. length x < size) (λ x. x ≡ []) a b c s t v first.0 second.0 u w first.2 (λ y none. omega (arith, length-append u y, ap length none, first.3.1, some)) second.2,
      (
        grown ∙ ap (λ x. x ++ w) first.3.0 ∙ append_assoc body u w,
        omega (arith, length-append u w, first.3.1, ap length grown, sized, second.3.0.fits),
        omega (arith, length-append u w, first.3.1, second.3.0.fits),
        omega (arith, first.3.1),
        w,
        omega (arith, length-append u w, first.3.1),
        second.3.1,
      ),
    )

-- ---- bytes to the end

abbrev pub Opening : {S : Type 0} → (S → Option (List ℕ)) → ℕ → List ℕ → (a b : Buffer) → (s t : S) → Type 0
Opening left most content a b s t = Drew left (λ x. length x ≤ most) a b s t (λ used. content ≡ used)

pub opening_more : {S : Type 0} (left : S → Option (List ℕ)) (most k : ℕ) (content content_new : List ℕ) (a b c : Buffer) (s t v : S) (r : Result Filled Halt) → length content ≤ most → Opening left most content a b s t
    → Some_moved left k content content_new b c t v r → Drew left (λ x. length x ≤ most) a c s v (λ used. (content_new ≡ used) × (w : List ℕ) × (used ≡ content ++ w) × MovesSome w c.0 (left v) r)
opening_more left most k content content_new a b c s t v r room first second =
    let u = first.1 in
    let w = second.1 in (
      first.0 ++ second.0,
      u ++ w,
      draws_then left (λ x. length x ≤ most) (λ x. x ≡ []) a b c s t v first.0 second.0 u w first.2 (λ y none. omega (arith, length-append u y, ap length none, ap length first.3, room)) second.2,
      (second.3.0.grown ∙ ap (λ x. x ++ w) first.3, w, ap (λ x. x ++ w) (sym first.3), second.3.1),
    )
