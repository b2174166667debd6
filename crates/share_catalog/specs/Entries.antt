-- The keys of what is held, in the form in which they are compared.
use Rattle.std.specs.Prelude.{ℕ, List, [], ◌∷◌, map}
use Rattle.share_catalog.specs.declared.sorted.Entry.{Entry}
use Rattle.share_catalog.specs.declared.state.Pair.{Pair}

abbrev pub texts : List ℕ → List ℕ → List (List ℕ)
texts a b = a ∷ b ∷ []

abbrev pub pair_texts : Pair → List (List ℕ)
pair_texts p = texts p.recipient p.share

abbrev pub entries : {K X V : Type 0} → (K → X) → List (Entry K V) → List (X × V)
entries seen xs = map (λ x. (seen x.key, x.value)) xs
