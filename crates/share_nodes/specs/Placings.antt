-- What nodes add to a log, and what they acknowledge.
use Rattle.std.specs.Prelude.{ℕ, ◌==◌, List}
use Rattle.std.specs.List.{count_by}

-- a commit, and the node that placed it
pub record Placing (C : Type 0) : Type 0 where
  pub by : ℕ
  pub commit : C

abbrev pub placing : {C : Type 0} → ℕ → C → Placing C
placing k c = record { by = k; commit = c }

abbrev pub commit_of : {C : Type 0} → Placing C → C
commit_of p = p.commit

-- how often a version stands among these
abbrev pub times : ℕ → List ℕ → ℕ
times v vs = count_by (λ u. u == v) vs
