-- What was written of a request: a head, and a body behind it.
use Rattle.std.proofs.Common.{◌≡◌, ℕ, List, [], ◌++◌, Option, Some, take, drop, refl, sym, ap, ◌∙◌, arith, append_assoc, append-nil}
use Rattle.std.proofs.lemmas.List.{take-append-drop}
use Rattle.std.specs.Io.KnownBytes.{append_known}
use Rattle.edge_core.specs.Faults.{Rose}
use Rattle.bucket_store.specs.Exchanges.{Wrote}

-- this was written of the text
abbrev pub Written : List ℕ → Option (List ℕ) → ℕ → Type 0
Written text holds faults = (written : List ℕ) × (holds ≡ Some written) × Wrote text written faults

no_fault : {A : Type 0} (before now : ℕ) → Rose before now → now ≡ 0 → A
no_fault before now rose none = absurd (omega (arith, rose, none))

-- a write of the head failed
pub head_failed : (head body : List ℕ) (old new : Option (List ℕ)) (n before now : ℕ) → new ≡ append_known old (take n head) → Rose before now → old ≡ Some [] → Written (head ++ body) new now
head_failed head body old new n before now wrote rose empty = (
  take n head,
  wrote ∙ ap (λ o. append_known o (take n head)) empty,
  record {
    front = (drop n head ++ body, sym (append_assoc (take n head) (drop n head) body) ∙ ap (λ x. x ++ body) (take-append-drop n head));
    whole = λ none. no_fault before now rose none;
  },
)

-- a write of the body failed
pub body_failed :
    (head body : List ℕ) (old mid new : Option (List ℕ)) (n before now : ℕ)
    → mid ≡ append_known old head → new ≡ append_known mid (take n body) → Rose before now → old ≡ Some [] → Written (head ++ body) new now
body_failed head body old mid new n before now first wrote rose empty = (
  head ++ take n body,
  wrote ∙ ap (λ o. append_known o (take n body)) (first ∙ ap (λ o. append_known o head) empty),
  record {
    front = (drop n body, append_assoc head (take n body) (drop n body) ∙ ap (λ x. head ++ x) (take-append-drop n body));
    whole = λ none. no_fault before now rose none;
  },
)

-- all was written
pub all_written :
    (head body : List ℕ) (old mid new last : Option (List ℕ)) (now : ℕ)
    → mid ≡ append_known old head → new ≡ append_known mid body → last ≡ new → old ≡ Some [] → Written (head ++ body) last now
all_written head body old mid new last now first wrote same empty = (
  head ++ body,
  same ∙ wrote ∙ ap (λ o. append_known o body) (first ∙ ap (λ o. append_known o head) empty),
  record { front = ([], append-nil (head ++ body)); whole = λ none. refl },
)
