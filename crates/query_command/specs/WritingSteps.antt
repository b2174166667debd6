-- What one write to a sink does.
use Rattle.std.specs.Prelude.{◌≡◌, ℕ, ◌≤◌, List, Bool, true, false, take, Option}
use Rattle.std.specs.Io.KnownBytes.{append_known}
use Rattle.edge_core.specs.Faults.{Rose}

-- the text was written whole, or a front of it where a write failed
abbrev pub Wrote : Option (List ℕ) → Option (List ℕ) → ℕ → ℕ → List ℕ → Bool → Type 0
Wrote old new before now text true = (new ≡ append_known old text) × (before ≤ now)
Wrote old new before now text false = ((n : ℕ) × (new ≡ append_known old (take n text))) × Rose before now × (before ≤ now)
