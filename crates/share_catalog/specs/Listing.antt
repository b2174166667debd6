-- What is listed of a catalogue, in byte order.
use Rattle.std.specs.Prelude.{◌≡◌, ℕ, List, [], ◌∷◌, All, true, map, option_map}
use Rattle.std.specs.FinMap.Entries.{find, is_sorted}
use Rattle.share_catalog.specs.declared.edit.Edit.{Edit}
use Rattle.share_catalog.specs.declared.listing.Bound.{Bound}
use Rattle.share_catalog.specs.declared.listing.Granted.{Granted}
use Rattle.share_catalog.specs.Catalogue.{binding_edition, bound, grant_edition, granted, said}
use Rattle.share_catalog.specs.Listed.{bound_entry, grant_entry}
use Rattle.share_catalog.specs.TableNames.{texts_cmp}

-- the shares that the recipient is granted, each once in byte order, with their editions
pub record ListsGrants (edits : List Edit) (r : List ℕ) (items : List Granted) : Type 0 where
  pub ordered : is_sorted texts_cmp (map grant_entry items) ≡ true
  pub exact : (s : List ℕ) → find texts_cmp (s ∷ []) (map grant_entry items) ≡ said (granted edits r s) (grant_edition edits r s)

-- the bindings of the share and of no other, each once in byte order of schema and then of table, with their editions
pub record ListsBindings (edits : List Edit) (s : List ℕ) (items : List Bound) : Type 0 where
  pub of : All (λ b. b.table.now.share ≡ s) items
  pub ordered : is_sorted texts_cmp (map bound_entry items) ≡ true
  pub exact : (schema table : List ℕ) → find texts_cmp (schema ∷ table ∷ []) (map bound_entry items)
      ≡ option_map (λ b. (b, binding_edition edits (record { share = s; schema = schema; table = table }))) (bound edits (record { share = s; schema = schema; table = table }))
