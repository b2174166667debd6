-- What private functions say of reads.
use Rattle.std.specs.Prelude.{◌≡◌, ℕ, ◌<◌, ◌≤◌, List, [], ◌++◌, length, take, drop, Option, Result, Ok, Err, ⊤}
use Rattle.edge_core.specs.Faults.{Rose}
use Rattle.http_message.specs.Sessions.{place_behind}
use Rattle.http_wire.specs.Streams.{Buffer, IsEnd, Draws}
use Rattle.http_wire.specs.declared.inbox.Filled.{Filled}
use Rattle.http_wire.specs.declared.inbox.Filled.TheVariants as filled
use Rattle.http_wire.specs.declared.inbox.Halt.{Halt}
use Rattle.http_wire.specs.declared.inbox.Halt.TheVariants as halt

-- a fault of reading comes only where the count rose
abbrev pub RoseAtFault : {A : Type 0} → ℕ → ℕ → Result A Halt → Type 0
RoseAtFault n m (Ok a) = ⊤
RoseAtFault n m (Err halt.NoMemory) = ⊤
RoseAtFault n m (Err halt.Fault) = Rose n m

-- bytes were read, and none used
abbrev pub Awaits : {S : Type 0} → (S → Option (List ℕ)) → (List ℕ → Type 0) → (old new : Buffer) → (source source_new : S) → Type 0
Awaits left Short old new source source_new = (pieces : List (List ℕ)) × Draws left Short old new source source_new pieces []

-- what one read did
abbrev pub Fills : {E : Type 0} → List ℕ → List ℕ → Option (List ℕ) → Result Filled E → Type 0
Fills old new left (Ok filled.More) = length old < length new
Fills old new left (Ok filled.End) = (new ≡ old) × IsEnd left
Fills old new left (Err e) = ⊤

-- what was used went behind the body: some bytes, or none where the input ended
abbrev pub MovesSome : {E : Type 0} → (used rest : List ℕ) → Option (List ℕ) → Result Filled E → Type 0
MovesSome used rest left (Ok filled.More) = 0 < length used
MovesSome used rest left (Ok filled.End) = (used ≡ []) × (rest ≡ []) × IsEnd left
MovesSome used rest left (Err e) = ⊤

-- the used bytes are at most so many, and went behind the body
pub record GoesBehind (most : ℕ) (body body_new used : List ℕ) : Type 0 where
  pub grown : body_new ≡ body ++ used
  pub fits : length used ≤ most

-- the first bytes, at most so many, were used and stand behind the body; on want of memory nothing was used
abbrev pub IsDrained : {A : Type 0} → ℕ → Buffer → Buffer → (body body_new : List ℕ) → Result A Halt → Type 0
IsDrained most old new body body_new (Ok all) =
    (new.0 ≡ drop most old.0) × (new.1 ≡ place_behind old.1 (take most old.0)) × (body_new ≡ body ++ take most old.0)
IsDrained most old new body body_new (Err e) = (new ≡ old) × (body_new ≡ body) × (e ≡ halt.NoMemory)
