-- Lists of entries in the order of their keys.
use Rattle.std.specs.Prelude.{ℕ, zero, suc, List, [], ◌∷◌, Option, None, Result, Ok, Err, option_map, slice_get}
use Rattle.std.specs.List.{insert, remove}
use Rattle.std.specs.FinMap.Entries.{by_order}
use Rattle.std.specs.declared.cmp.Ordering.{Ordering}
use Rattle.share_catalog.specs.declared.sorted.Entry.{Entry}

abbrev pub further : Result ℕ ℕ → Result ℕ ℕ
further (Ok i) = Ok (suc i)
further (Err i) = Err (suc i)

-- where a key stands among keys in order, or else where it would stand
abbrev pub place_of : {K V : Type 0} → (K → K → Ordering) → K → List (K × V) → Result ℕ ℕ
place_of R k [] = Err 0
place_of R k (e ∷ es) = by_order (R k e.0) (Err 0) (Ok 0) (further (place_of R k es))

-- the entries without the one of that key
abbrev pub take_out : {K V : Type 0} → (K → K → Ordering) → K → List (K × V) → List (K × V)
take_out R k [] = []
take_out R k (e ∷ es) = by_order (R k e.0) (e ∷ es) es (e ∷ take_out R k es)

abbrev pub value_in : {K V : Type 0} → Result ℕ ℕ → List (Entry K V) → Option V
value_in (Ok i) xs = option_map (λ x. x.value) (slice_get xs i)
value_in (Err i) xs = None

-- another value at a place
abbrev pub revalued : {K V : Type 0} → ℕ → V → List (Entry K V) → List (Entry K V)
revalued i v [] = []
revalued zero v (x ∷ xs) = record { key = x.key; value = v } ∷ xs
revalued (suc i) v (x ∷ xs) = x ∷ revalued i v xs

abbrev pub put_at : {K V : Type 0} → Result ℕ ℕ → K → V → List (Entry K V) → List (Entry K V)
put_at (Ok i) k v xs = revalued i v xs
put_at (Err i) k v xs = insert xs i (record { key = k; value = v })

abbrev pub taken_at : {K V : Type 0} → Result ℕ ℕ → List (Entry K V) → List (Entry K V)
taken_at (Ok i) xs = remove xs i
taken_at (Err i) xs = xs
