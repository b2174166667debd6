-- The calls of an object in memory, of which those with given numbers are to fail. The first call has the number 0.
use Rattle.std.specs.Prelude.{◌≡◌, ℕ, ◌+◌, ◌-◌, ◌^◌, ◌==◌, min, max, List, [], Bool, option_map, unwrap_or, slice_get}
use Rattle.std.specs.List.{list_any}
use Rattle.edge_core.specs.Faults.{counted}
use Rattle.edge_core.specs.declared.calls.Calls.{Calls}

-- whether a number is in a list
abbrev pub among : ℕ → List ℕ → Bool
among n ns = list_any (λ x. x == n) ns

-- how many calls were made, which is the number of the next
abbrev pub calls_made : Calls → ℕ
calls_made c = c.made

-- how many calls failed
abbrev pub calls_failed : Calls → ℕ
calls_failed c = c.faults

-- the numbers of the calls that are to fail
abbrev pub calls_to_fail : Calls → List ℕ
calls_to_fail c = c.fails.items

-- whether the next call is to fail
abbrev pub due : Calls → Bool
due c = among (calls_made c) (calls_to_fail c)

-- no call was made, and none is to fail
pub record IsFresh (c : Calls) : Type 0 where
  pub made : calls_made c ≡ 0
  pub faults : calls_failed c ≡ 0
  pub to_fail : calls_to_fail c ≡ []

-- other calls are to fail, and nothing else changed
pub record Plans (old new : Calls) (fails : List ℕ) : Type 0 where
  pub made : calls_made new ≡ calls_made old
  pub faults : calls_failed new ≡ calls_failed old
  pub to_fail : calls_to_fail new ≡ fails

-- one more call was made, and one more failed where this one did; both counts stand still at 2^64 - 1
pub record Counts (old new : Calls) (failed : Bool) : Type 0 where
  pub made : calls_made new ≡ min (calls_made old + 1) (2 ^ 64 - 1)
  pub faults : calls_failed new ≡ counted (calls_failed old) failed
  pub to_fail : calls_to_fail new ≡ calls_to_fail old

-- how many bytes the call of that number moves, at most so many: the size given for it, at least 1, or all where none is
abbrev pub piece_size : List ℕ → ℕ → ℕ → ℕ
piece_size sizes call most = unwrap_or (option_map (λ size. min (max size 1) most) (slice_get sizes call)) most
