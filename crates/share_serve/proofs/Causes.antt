-- The causes of ends.
use Rattle.std.proofs.Common.{ℕ, ◌≤◌, Bool, true, false, Option, Some, None, IfSome, arith, true≢false}
use Rattle.edge_core.specs.Faults.{Rose}
use Rattle.edge_core.specs.Objects.{Objects, Grows}
use Rattle.http_message.specs.declared.refusal.Flaw.{Flaw}
use Rattle.share_serve.specs.Sends.{DeliveryCause}
use Rattle.share_serve.specs.Sessions.{HasCause}
use Rattle.share_serve.specs.Turned.{RefusalEnds, TurnCause, turned_of}
use Rattle.share_serve.specs.Turns.{Side}
use Rattle.share_serve.specs.declared.send.Delivered.{Delivered}
use Rattle.share_serve.specs.declared.send.Delivered.TheVariants as delivered
use Rattle.share_serve.specs.declared.serve.SessionEnd.{SessionEnd}
use Rattle.share_serve.specs.declared.serve.SessionEnd.TheVariants as end

rose : (n n' m : ℕ) → n ≤ n' → Rose n' m → Rose n m
rose n n' m le r = omega arith

rose_told : (os os' : Option Objects) (p p' q : ℕ) → Grows os os' → p ≤ p' → IfSome os' (λ _. Rose p' q) → IfSome os (λ _. Rose p q)
rose_told None os' p p' q g le r = tt
rose_told (Some o) None p p' q g le r = absurd (true≢false g)
rose_told (Some o) (Some o') p p' q g le r = rose p p' q le r

-- counts that rose later rose since before
pub has_cause : (e : SessionEnd) (n n' m a a' b : ℕ) (os os' : Option Objects) (p p' q : ℕ) → n ≤ n' → a ≤ a' → Grows os os' → p ≤ p' → HasCause e n' m a' b os' p' q → HasCause e n m a b os p q
has_cause (end.ReadFault served) n n' m a a' b os os' p p' q x y g z h = rose n n' m x h
has_cause (end.WriteFault served) n n' m a a' b os os' p p' q x y g z h = rose a a' b y h
has_cause (end.BodyCut served sent) n n' m a a' b os os' p p' q x y g z h = rose_told os os' p p' q g z h
has_cause (end.Done served) n n' m a a' b os os' p p' q x y g z h = tt
has_cause (end.Truncated at served) n n' m a a' b os os' p p' q x y g z h = tt
has_cause (end.BadMessage at flaw served) n n' m a a' b os os' p p' q x y g z h = tt
has_cause (end.NoMemory served) n n' m a a' b os os' p p' q x y g z h = tt

-- a refusal's end has its cause, whatever the source and the store count
pub refusal_cause : (e : SessionEnd) (at : ℕ) (flaw : Flaw) (served : ℕ) (s s' : Side) (n m a b : ℕ) (os : Option Objects) (p q : ℕ) → RefusalEnds e at flaw served s s' → HasCause e 0 0 a b None 0 0 → HasCause e n m a b os p q
refusal_cause (end.WriteFault served') at flaw served s s' n m a b os p q r h = h
refusal_cause (end.BadMessage at' flaw' served') at flaw served s s' n m a b os p q r h = tt
refusal_cause (end.NoMemory served') at flaw served s s' n m a b os p q r h = tt
refusal_cause (end.BodyCut served' sent) at flaw served s s' n m a b os p q r h = absurd r
refusal_cause (end.Done served') at flaw served s s' n m a b os p q r h = absurd r
refusal_cause (end.Truncated at' served') at flaw served s s' n m a b os p q r h = absurd r
refusal_cause (end.ReadFault served') at flaw served s s' n m a b os p q r h = absurd r

-- a response's end is the request's
pub turn_cause : (d : Delivered) (closes : Bool) (a b : ℕ) (os : Option Objects) (p q : ℕ) → DeliveryCause d os p q a b → TurnCause (turned_of d closes) a b os p q
turn_cause delivered.Whole true a b os p q h = tt
turn_cause delivered.Whole false a b os p q h = tt
turn_cause delivered.WriteFault closes a b os p q h = h
turn_cause delivered.NoMemory closes a b os p q h = tt
turn_cause (delivered.Cut n) closes a b os p q h = h
