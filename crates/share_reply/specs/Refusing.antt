-- A refusal as it is told, and tests in the order in which their refusals are told.
use Rattle.std.specs.Prelude.{ℕ, List, [], ◌∷◌, Bool, true, false, Result, Err}
use Rattle.case_table.specs.declared.refuse.Refusal.{Refusal}

-- a refusal with the variable part of its message, which is empty where the message has none
pub record Refused : Type 0 where
  pub refusal : Refusal
  pub detail : List ℕ

-- a refusal whose message has no detail
abbrev pub plain : Refusal → Refused
plain refusal = record { refusal = refusal; detail = [] }

-- the value where all tests hold, else the refusal of the first that doesn't
abbrev pub where_all : {X : Type 0} → List (Bool × Refusal) → Result X Refused → Result X Refused
where_all [] x = x
where_all ((true, refusal) ∷ tests) x = where_all tests x
where_all ((false, refusal) ∷ tests) x = Err (plain refusal)
