-- Lines, each a source and a sink, that a listener or a link gives out and takes back.
use Rattle.std.specs.Prelude.{◌≡◌, ℕ, List, [], ◌∷◌, ◌++◌, Option, Some, IfSome, option_map}
use Rattle.edge_core.specs.Objects.{Told}

-- a line that was closed: what was written to it, and how often its source and its sink had failed
pub record ClosedLine : Type 0 where
  pub written : Option (List ℕ)
  pub read_faults : ℕ
  pub write_faults : ℕ

abbrev pub closed_line : Option (List ℕ) → ℕ → ℕ → ClosedLine
closed_line written reads writes = record { written = written; read_faults = reads; write_faults = writes }

-- the closed lines with one more
abbrev pub with_line : Option (List ClosedLine) → ClosedLine → Option (List ClosedLine)
with_line closed line = option_map (λ lines. lines ++ line ∷ []) closed

-- a line to a peer that is to come: the host and the port at which it is opened, and the bytes that it comes with
pub record PeerLine : Type 0 where
  pub host : List ℕ
  pub port : ℕ
  pub bytes : List ℕ

abbrev pub peer_line : List ℕ → ℕ → List ℕ → PeerLine
peer_line host port bytes = record { host = host; port = port; bytes = bytes }

-- The next line comes, with its bytes, and nothing is written to it yet.
abbrev pub Comes : Option (List (List ℕ)) → Option (List (List ℕ)) → Option (List ℕ) → Option (List ℕ) → Type 0
Comes old new left written = Told old new (λ lines rest. (bytes : List ℕ) × (lines ≡ bytes ∷ rest) × (left ≡ Some bytes) × (written ≡ Some []))

-- The next line comes, which is to this host and port, with its bytes, and nothing is written to it yet.
abbrev pub ComesFrom : List ℕ → ℕ → Option (List PeerLine) → Option (List PeerLine) → Option (List ℕ) → Option (List ℕ) → Type 0
ComesFrom host port old new left written =
    Told old new (λ lines rest. (bytes : List ℕ) × (lines ≡ peer_line host port bytes ∷ rest) × (left ≡ Some bytes) × (written ≡ Some []))

-- no line comes
abbrev pub NoneComes : Option (List (List ℕ)) → Type 0
NoneComes coming = IfSome coming (λ lines. lines ≡ [])
