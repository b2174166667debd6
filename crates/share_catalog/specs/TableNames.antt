-- The order of table names.
use Rattle.std.specs.Prelude.{ℕ, List, [], ◌∷◌}
use Rattle.std.specs.Ordering.{nat_cmp}
use Rattle.std.specs.Cmp.Lexicographic.{slice_cmp}
use Rattle.std.specs.declared.cmp.Ordering.{Ordering}
use Rattle.share_catalog.specs.declared.table_name.TableName.{TableName}

-- a table's share, schema and table, in this order
abbrev pub parts_of : TableName → List (List ℕ)
parts_of name = name.share ∷ name.schema ∷ name.table ∷ []

-- the order of lists of texts: by the first texts in byte order, then by the next
abbrev pub texts_cmp : List (List ℕ) → List (List ℕ) → Ordering
texts_cmp = slice_cmp (slice_cmp nat_cmp)
