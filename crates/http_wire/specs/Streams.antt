-- Bytes between a source and a reader.
use Rattle.std.specs.Prelude.{◌≡◌, ℕ, ◌^◌, ◌<◌, ◌≤◌, List, [], ◌∷◌, ◌++◌, length, Option, Some, IfSome, ⊤}
use Rattle.std.specs.Io.KnownBytes.{prepend_known}
use Rattle.http_message.specs.Sessions.{place_behind}

-- the bytes that were read and not used, and the place of the first of them
abbrev pub Buffer : Type 0
Buffer = List ℕ × ℕ

-- the stream as far as it is told: what was read and not used, and what the source has left
abbrev pub stream : Buffer → Option (List ℕ) → Option (List ℕ)
stream buffer left = prepend_known buffer.0 left

-- where the stream is told it was xs, it is told as some ys, and this holds of both
abbrev pub Told : Option (List ℕ) → Option (List ℕ) → (List ℕ → List ℕ → Type 0) → Type 0
Told old new P = (xs : List ℕ) → old ≡ Some xs → (ys : List ℕ) × (new ≡ Some ys) × P xs ys

-- where the source tells, nothing is left
abbrev pub IsEnd : Option (List ℕ) → Type 0
IsEnd left = IfSome left (λ xs. xs ≡ [])

-- the first bytes of the stream were used
abbrev pub Moves : List ℕ → ℕ → List ℕ → ℕ → Type 0
Moves xs place ys place_new = (taken : List ℕ) × (xs ≡ taken ++ ys) × (place < 2 ^ 64 → place_new ≡ place_behind place taken)

-- ---- of every source, told or not

-- the bytes of some reads
abbrev pub all_of : List (List ℕ) → List ℕ
all_of [] = []
all_of (piece ∷ pieces) = piece ++ all_of pieces

-- Each of these reads was made while the bytes at hand were Short, and gave at most 8,192 bytes.
abbrev pub EachShort : (List ℕ → Type 0) → (bytes : List ℕ) (pieces : List (List ℕ)) → Type 0
EachShort Short bytes [] = ⊤
EachShort Short bytes (piece ∷ pieces) = Short bytes × (length piece ≤ 8192) × EachShort Short (bytes ++ piece) pieces

-- What a call did with its source: it made these reads, each while the bytes at hand were Short of what was asked for, and of all bytes
-- the first were used. Without a read the source is as it was.
pub record Draws {S : Type 0} (left : S → Option (List ℕ)) (Short : List ℕ → Type 0) (old new : Buffer) (source source_new : S) (pieces : List (List ℕ)) (used : List ℕ) : Type 0 where
  pub came : left source ≡ prepend_known (all_of pieces) (left source_new)
  pub spelled : old.0 ++ all_of pieces ≡ used ++ new.0
  pub place : old.1 < 2 ^ 64 → new.1 ≡ place_behind old.1 used
  pub each : EachShort Short old.0 pieces
  pub spared : pieces ≡ [] → source_new ≡ source

-- there are such reads and such bytes, and P holds of the bytes that were used
abbrev pub Drew : {S : Type 0} → (S → Option (List ℕ)) → (List ℕ → Type 0) → (old new : Buffer) → (source source_new : S) → (List ℕ → Type 0) → Type 0
Drew left Short old new source source_new P =
    (pieces : List (List ℕ)) × (used : List ℕ) × Draws left Short old new source source_new pieces used × P used
