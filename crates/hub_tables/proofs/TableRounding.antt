-- Steps on a table's log, one after another.
use Rattle.std.proofs.Common.{◌≡◌, ℕ, List, length, Option, Some, None, Ok, refl, subst}
use Rattle.std.specs.Prelude.{IfSome}
use Rattle.std.specs.Option.{option_map}
use Rattle.edge_core.specs.Objects.{Objects}
use Rattle.log_store.specs.Log.{text_at}
use Rattle.hub_tables.specs.TableRounds.{IsThere}
use Rattle.hub_tables.specs.declared.table_rounds.VersionObject.TheVariants as object
use Rattle.std.specs.FinMap as finmap
use Rattle.log_commit.specs.Names.{commit_name}

-- ---- whether a version is there

pub sized_there : (o : Option Objects) (location name : List ℕ) (version n : ℕ) → name ≡ commit_name location version → IfSome o (λ os. option_map length (finmap.get os name) ≡ Some n) → IfSome o (λ os. IsThere (text_at location os version) (Ok object.There))
sized_there None location name version n e w = tt
sized_there (Some os) location name version n e w = by_bytes (finmap.get os (commit_name location version)) (subst (λ (m : List ℕ). option_map length (finmap.get os m) ≡ Some n) e w)
  where
    by_bytes : (r : Option (List ℕ)) → option_map length r ≡ Some n → IsThere r (Ok object.There)
    by_bytes None is = absurd (cc is)
    by_bytes (Some bytes) is = refl

pub absent_there : (o : Option Objects) (location name : List ℕ) (version : ℕ) → name ≡ commit_name location version → IfSome o (λ os. finmap.get os name ≡ None) → IfSome o (λ os. IsThere (text_at location os version) (Ok object.Absent))
absent_there None location name version e w = tt
absent_there (Some os) location name version e w = subst (λ (m : List ℕ). finmap.get os m ≡ None) e w
