-- What puts answer is true of the bucket.
use Rattle.std.specs.Prelude.{◌≡◌, ◌≢◌, ℕ, List, Option, Some, None, ⊤}
use Rattle.edge_core.specs.declared.store.Put.{Put}
use Rattle.edge_core.specs.declared.store.Put.TheVariants as put
use Rattle.bucket_store.specs.Buckets.{Call, Maker, Move, Answered, world_of}

-- Stored: it made the object that has the name, and nothing had the name when it began. Exists: another object has the name.
abbrev pub IsTrueAnswer : ℕ → Call → Option Maker → Put → Type 0
IsTrueAnswer mark call there put.Stored = (there ≡ Some (Some mark)) × (call.before ≡ None)
IsTrueAnswer mark call there put.Exists = (maker : Maker) × (there ≡ Some maker) × (maker ≢ Some mark)
IsTrueAnswer mark call there put.Failed = ⊤

-- for every list of moves
abbrev pub PutsTellTheTruth : Type 0
PutsTellTheTruth =
    (moves : List Move) (mark : ℕ) (call : Call) (answer : Put) → (world_of moves).calls mark ≡ Some call → call.stage ≡ Answered answer
    → IsTrueAnswer mark call ((world_of moves).bucket call.name) answer
