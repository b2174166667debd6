-- The orders of keys, and a value written at a place.
use Rattle.std.proofs.Common.{◌≡◌, ℕ, zero, suc, ◌<◌, List, [], ◌∷◌, length, ap, arith}
use Rattle.std.specs.Prelude.{slice_set, slice_index_or}
use Rattle.std.specs.Cmp.{IsTotalOrder}
use Rattle.std.proofs.lemmas.Cmp.{nat_list_cmp_total, lists_total}
use Rattle.share_catalog.specs.TableNames.{texts_cmp}
use Rattle.share_catalog.specs.Sorted.{revalued}
use Rattle.share_catalog.specs.declared.sorted.Entry.{Entry}

pub texts_total : IsTotalOrder texts_cmp
texts_total = lists_total nat_list_cmp_total

pub set_value : {K V : Type 0} (xs : List (Entry K V)) (i : ℕ) (v : V) (x : Entry K V) → i < length xs → x ≡ slice_index_or xs i x → slice_set xs i (record { key = x.key; value = v }) ≡ revalued i v xs
set_value [] i v x low is = absurd (omega (arith, low))
set_value (y ∷ ys) zero v x low is = ap (λ k. record { key = k; value = v } ∷ ys) (ap (λ e. e.key) is)
set_value (y ∷ ys) (suc i) v x low is = ap (λ r. y ∷ r) (set_value ys i v x (omega (arith, low)) is)
