-- How a list of edits is made of the one before it.
use Rattle.std.specs.Prelude.{List, [], ◌∷◌, ◌++◌, Option, Some, None}
use Rattle.std.specs.declared.snapshot.Snapshot.{Snapshot}
use Rattle.share_catalog.specs.declared.edit.Edit.{Edit}

abbrev pub edits_in : Option (Snapshot (List Edit) × Snapshot Edit) → List Edit
edits_in None = []
edits_in (Some s) = s.0.value ++ s.1.value ∷ []
