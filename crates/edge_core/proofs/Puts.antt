-- What a put does where others may have added before it.
use Rattle.std.proofs.Common.{◌≡◌, ◌⊎◌, ℕ, List, ◌∙◌, ap, Bool, true, false, inl, inr, Some, None, if◌then◌else◌}
use Rattle.std.specs.Bool.{OnTrue}
use Rattle.std.specs.FinMap as finmap
use Rattle.edge_core.specs.Objects.{GrowsTo, Stores, Fails, Lacks, with_object}
use Rattle.edge_core.specs.Stored.{Shelved, with_one}
use Rattle.edge_core.proofs.Growth.{GrowsTo-on, GrowsTo-absent}
use Rattle.edge_core.proofs.Shelves.{grows_add, get_inserted}

only_stored : (alone : Bool) (old mid new : Shelved) (name bytes : List ℕ) → OnTrue alone (mid ≡ old) → new ≡ with_one mid name bytes
    → OnTrue alone (Some new.0 ≡ with_object name bytes (Some old.0))
only_stored true old mid new name bytes same e = ap (λ s. Some s.0) e ∙ ap (λ m. Some (finmap.insert m.0 name bytes)) same
only_stored false old mid new name bytes same e = tt

pub stores_put : (alone : Bool) (old mid new : Shelved) (name bytes : List ℕ) → GrowsTo old.0 mid.0 → OnTrue alone (mid ≡ old) → finmap.get mid.0 name ≡ None
    → new ≡ with_one mid name bytes → Stores (Some old.0) (Some new.0) alone name bytes
stores_put alone old mid new name bytes grows same none e = record {
  grows = GrowsTo-on old.0 mid.0 new.0 grows (grows_add true mid new name bytes none e);
  absent = GrowsTo-absent old.0 mid.0 name grows none;
  there = ap (λ m. finmap.get m.0 name) e ∙ get_inserted mid.0 name bytes;
  only = only_stored alone old mid new name bytes same e;
}

only_failed : (alone b : Bool) (old mid new : Shelved) (name bytes : List ℕ) → OnTrue alone (mid ≡ old) → finmap.get old.0 name ≡ None
    → new ≡ (if b then with_one mid name bytes else mid)
    → OnTrue alone ((Some new.0 ≡ Some old.0) ⊎ (Lacks name (Some old.0) × (Some new.0 ≡ with_object name bytes (Some old.0))))
only_failed true true old mid new name bytes same none e = inr (none, only_stored true old mid new name bytes same e)
only_failed true false old mid new name bytes same none e = inl (ap (λ s. Some s.0) (e ∙ same))
only_failed false b old mid new name bytes same none e = tt

pub fails_put : (alone b : Bool) (old mid new : Shelved) (name bytes : List ℕ) → GrowsTo old.0 mid.0 → OnTrue alone (mid ≡ old) → finmap.get mid.0 name ≡ None
    → new ≡ (if b then with_one mid name bytes else mid) → Fails (Some old.0) (Some new.0) alone name bytes
fails_put alone b old mid new name bytes grows same none e = record {
  grows = GrowsTo-on old.0 mid.0 new.0 grows (grows_add b mid new name bytes none e);
  only = only_failed alone b old mid new name bytes same (GrowsTo-absent old.0 mid.0 name grows none) e;
}
