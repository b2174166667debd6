-- Messages, one behind the other.
use Rattle.std.proofs.Common.{◌≡◌, ℕ, ◌^◌, ◌<◌, List, [], ◌∷◌, ◌++◌, Some, Result, Ok, Err, refl, subst, arith}
use Rattle.std.specs.declared.alloc.AllocError.{AllocError}
use Rattle.http_message.specs.Sessions.{Request, Stop, place_behind, ReadsRequests, ReadsStop, ReadsSession}
use Rattle.http_message.specs.Sessions as stop
use Rattle.http_wire.specs.Wires.{TellsMessage, request_of, stop_of}
use Rattle.http_wire.specs.declared.wire.Message.{Message}
use Rattle.http_wire.specs.declared.wire.Message.TheVariants as message

one_more : (rs : List Request) (next : Request) (p : ℕ) (xs : List ℕ) (q : ℕ) (ys : List ℕ) (s : ℕ) (zs : List ℕ) → ReadsRequests rs p xs q ys → ReadsRequests (next ∷ []) q ys s zs → ReadsRequests (rs ++ next ∷ []) p xs s zs
one_more [] next p xs q ys s zs reads last = subst (λ n. ReadsRequests (next ∷ []) n xs s zs) reads.1 (subst (λ z. ReadsRequests (next ∷ []) q z s zs) reads.0 last)
one_more (r ∷ rs) next p xs q ys s zs reads last = (reads.0, reads.1, reads.2, reads.3, reads.4, one_more rs next (place_behind p reads.0) reads.1 q ys s zs reads.5 last)

same_some : {A : Type 0} (a b : A) → Some a ≡ Some b → a ≡ b
same_some a b e = cc

pub follows : (requests : List Request) (next : Request) (xs ys zs : List ℕ) (p q s : ℕ) (r : Result Message AllocError) → q < 2 ^ 64 → ReadsRequests requests p xs q ys → TellsMessage ys q zs s r → request_of r ≡ Some next
    → ReadsRequests (requests ++ next ∷ []) p xs s zs × (s < 2 ^ 64)
follows requests next xs ys zs p q s (Ok (message.Request at head body closes)) small reads tells is =
    let here : Request = record { at = at; head = head; body = body.items; closes = closes } in
    let moves = tells.moves in
    let place = moves.2 small in
    let last : ReadsRequests (here ∷ []) q ys s zs = (moves.0, zs, moves.1, tells.answers.0, tells.answers.1, (refl, place)) in (
      subst (λ n. ReadsRequests (requests ++ n ∷ []) p xs s zs) (same_some here next is) (one_more requests here p xs q ys s zs reads last),
      omega (arith, place),
    )
follows requests next xs ys zs p q s (Ok message.End) small reads tells is = absurd cc
follows requests next xs ys zs p q s (Ok (message.Truncated at)) small reads tells is = absurd cc
follows requests next xs ys zs p q s (Ok (message.Bad at flaw)) small reads tells is = absurd cc
follows requests next xs ys zs p q s (Ok message.ReadFault) small reads tells is = absurd cc
follows requests next xs ys zs p q s (Err e) small reads tells is = absurd cc

pub ends : (requests : List Request) (last : Stop) (xs ys zs : List ℕ) (p q s : ℕ) (r : Result Message AllocError) → ReadsRequests requests p xs q ys → TellsMessage ys q zs s r → stop_of r ≡ Some last → ReadsSession requests last p xs
ends requests last xs ys zs p q s (Ok message.End) reads tells is = (q, ys, reads, subst (λ t. ReadsStop t q ys) (same_some stop.ended last is) tells.answers)
ends requests last xs ys zs p q s (Ok (message.Truncated at)) reads tells is = (q, ys, reads, subst (λ t. ReadsStop t q ys) (same_some (stop.truncated at) last is) tells.answers)
ends requests last xs ys zs p q s (Ok (message.Bad at flaw)) reads tells is = (q, ys, reads, subst (λ t. ReadsStop t q ys) (same_some (stop.bad at flaw) last is) tells.answers)
ends requests last xs ys zs p q s (Ok (message.Request at head body closes)) reads tells is = absurd cc
ends requests last xs ys zs p q s (Ok message.ReadFault) reads tells is = absurd cc
ends requests last xs ys zs p q s (Err e) reads tells is = absurd cc
