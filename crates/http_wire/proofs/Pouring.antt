-- Bytes that went behind a body.
use Rattle.std.proofs.Common.{◌≡◌, ℕ, ◌<◌, List, [], ◌++◌, length, take, drop, Option, Result, Ok, refl, sym, ap, ◌∙◌, arith}
use Rattle.std.proofs.lemmas.List.{append-nil, take-append-drop, length-take}
use Rattle.http_wire.specs.Fills.{Awaits, GoesBehind, MovesSome}
use Rattle.http_message.specs.Sessions.{place_behind}
use Rattle.http_wire.specs.Streams.{Buffer, Draws, Drew}
use Rattle.http_wire.specs.declared.inbox.Filled.{Filled}
use Rattle.http_wire.specs.declared.inbox.Filled.TheVariants as filled
use Rattle.http_wire.specs.declared.inbox.Halt.{Halt}
use Rattle.http_wire.proofs.Streams.{prepend-none, draws_next}

abbrev pub Moved : {S : Type 0} → (S → Option (List ℕ)) → ℕ → (body body_new : List ℕ) → (a b : Buffer) → (s t : S) → Result Filled Halt → Type 0
Moved left most body body_new a b s t r =
    Drew left (λ x. x ≡ []) a b s t (λ used. GoesBehind most body body_new used × MovesSome used b.0 (left t) r)

-- nothing was used
pub moved_nothing : {S : Type 0} (left : S → Option (List ℕ)) (most : ℕ) (body body_new : List ℕ) (a b : Buffer) (s t : S) (r : Result Filled Halt) → Awaits left (λ x. x ≡ []) a b s t → body_new ≡ body
    → MovesSome [] b.0 (left t) r → Moved left most body body_new a b s t r
moved_nothing left most body body_new a b s t r awaits same found = (
  awaits.0,
  [],
  awaits.1,
  (record { grown = same ∙ sym (append-nil body); fits = omega arith }, found),
)

-- the first bytes that were there
pub moved_drained : {S : Type 0} (left : S → Option (List ℕ)) (most : ℕ) (body body_new : List ℕ) (a b c : Buffer) (s t : S) → Awaits left (λ x. x ≡ []) a b s t → 0 < length b.0 → 0 < most
    → (c.0 ≡ drop most b.0) × (c.1 ≡ place_behind b.1 (take most b.0)) × (body_new ≡ body ++ take most b.0) → Moved left most body body_new a c s t (Ok filled.More)
moved_drained left most body body_new a b c s t awaits some room drained =
    let used = take most b.0 in
    let sized = length-take most b.0 in
    let here : Draws left (λ x. x ≡ []) b c t t [] used = record {
      came = sym (prepend-none (left t));
      spelled = append-nil b.0 ∙ sym (take-append-drop most b.0) ∙ ap (λ x. used ++ x) (sym drained.0);
      place = λ small. drained.1;
      each = tt;
      spared = λ none. refl;
    } in (
      awaits.0 ++ [],
      used,
      draws_next left (λ x. x ≡ []) (λ x. x ≡ []) a b c s t t awaits.0 [] used awaits.1 (λ y same. same) here,
      (record { grown = drained.2; fits = omega (arith, sized) }, omega (arith, sized, some, room)),
    )
