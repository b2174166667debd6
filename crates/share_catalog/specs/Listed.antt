-- Entries whose keys begin with a text.
use Rattle.std.specs.Prelude.{ℕ, List, [], ◌∷◌, Option, option_map}
use Rattle.std.specs.List.{cons_option}
use Rattle.std.specs.Ordering.{nat_cmp}
use Rattle.std.specs.Cmp.Lexicographic.{slice_cmp}
use Rattle.std.specs.FinMap.Entries.{by_order}
use Rattle.share_catalog.specs.declared.edit.Binding.{Binding}
use Rattle.share_catalog.specs.declared.listing.Bound.{Bound}
use Rattle.share_catalog.specs.declared.listing.Granted.{Granted}
use Rattle.share_catalog.specs.TableNames.{parts_of}

abbrev pub grant_entry : Granted → List (List ℕ) × ℕ
grant_entry g = (g.share.now ∷ [], g.edition.now)

abbrev pub bound_entry : Bound → List (List ℕ) × (Binding × ℕ)
bound_entry b = (b.table.now.schema ∷ b.table.now.table ∷ [], (b.binding.now, b.edition.now))

-- the entries whose keys begin with a text, without it, as far as they are kept
abbrev pub run : {V Y : Type 0} → List ℕ → (List (List ℕ) → V → Option Y) → List (List (List ℕ) × V) → List (List (List ℕ) × Y)
run first keep [] = []
run first keep (([], v) ∷ es) = run first keep es
run first keep ((a ∷ rest, v) ∷ es) =
    by_order (slice_cmp nat_cmp first a) [] (cons_option (option_map (λ y. (rest, y)) (keep rest v)) (run first keep es)) (run first keep es)

-- a binding by its whole name
abbrev pub whole_entry : Bound → List (List ℕ) × (Binding × ℕ)
whole_entry b = (parts_of b.table.now, (b.binding.now, b.edition.now))

-- the entries whose keys begin with a text, as far as they are kept
abbrev pub whole_run : {V Y : Type 0} → List ℕ → (List (List ℕ) → V → Option Y) → List (List (List ℕ) × V) → List (List (List ℕ) × Y)
whole_run first keep [] = []
whole_run first keep (([], v) ∷ es) = whole_run first keep es
whole_run first keep ((a ∷ rest, v) ∷ es) =
    by_order (slice_cmp nat_cmp first a) [] (cons_option (option_map (λ y. (a ∷ rest, y)) (keep rest v)) (whole_run first keep es)) (whole_run first keep es)
