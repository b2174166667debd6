-- A page of a list of which all is listed is a part of it.
use Rattle.std.proofs.Common.{◌≡◌, ℕ, zero, suc, ◌+◌, ◌-◌, ◌≤◌, ◌<◌, List, [], ◌∷◌, drop, length, Option, Some, None, Bool, true, false, refl, ap, ◌∙◌, arith}
use Rattle.std.specs.Prelude.{filter, nat_lt, if◌then◌else◌}
use Rattle.std.proofs.lemmas.Bool.{ltb-true}
use Rattle.std.proofs.lemmas.List.{length-drop}
use Rattle.change_feed.specs.Changes.{ChangedFile}
use Rattle.share_reply.specs.Feeds.{lists_all}
use Rattle.share_reply.specs.Pages.{at_most, given, up_to, next_place}
use Rattle.share_reply.specs.Starts.{behind}

pub filter_all : (xs : List ChangedFile) → filter lists_all xs ≡ xs
filter_all [] = refl
filter_all (x ∷ xs) = ap (λ ys. x ∷ ys) (filter_all xs)

pub given_all : (most : Option ℕ) (place : ℕ) (xs : List ChangedFile) → given lists_all most place xs ≡ at_most most (drop place xs)
given_all most place xs = ap (at_most most) (filter_all (drop place xs))

up_to_all : (k : ℕ) (xs : List ChangedFile) → k ≤ length xs → up_to lists_all k xs ≡ k
up_to_all zero xs within = refl
up_to_all (suc k) [] within = absurd (omega arith)
up_to_all (suc k) (x ∷ xs) within = ap suc (up_to_all k xs (omega arith))

behind_step : (k place : ℕ) (xs : List ChangedFile) (b : Bool) → nat_lt k (length xs - place) ≡ b
    → (if nat_lt k (length xs - place) then Some (place + k) else None) ≡ (if nat_lt k (length (filter lists_all (drop place xs))) then Some (place + up_to lists_all k (drop place xs)) else None)
behind_step k place xs true e =
    let count : length (filter lists_all (drop place xs)) ≡ length xs - place = ap length (filter_all (drop place xs)) ∙ length-drop place xs in
    let below : k < length xs - place = ltb-true k (length xs - place) e in
    let all : up_to lists_all k (drop place xs) ≡ k = up_to_all k (drop place xs) (omega (arith, length-drop place xs)) in
    rw (count, e, all) refl
behind_step k place xs false e =
    let count : length (filter lists_all (drop place xs)) ≡ length xs - place = ap length (filter_all (drop place xs)) ∙ length-drop place xs in
    rw (count, e) refl

pub behind_is : (most : Option ℕ) (place : ℕ) (xs : List ChangedFile) → behind (length xs) most place ≡ next_place lists_all most place xs
behind_is None place xs = refl
behind_is (Some k) place xs = behind_step k place xs (nat_lt k (length xs - place)) refl
