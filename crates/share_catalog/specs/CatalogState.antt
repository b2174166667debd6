-- A catalogue, as contracts see it.
use Rattle.std.specs.Prelude.{ℕ, ◌≡◌, ◌+◌, ◌<◌, ◌^◌, List, Option, Some, None, Result, Ok, Err, ⊤, length}
use Rattle.share_catalog.specs.declared.changes.Spare.{Spare}
use Rattle.share_catalog.specs.declared.edit.Edit.{Edit}
use Rattle.share_catalog.specs.declared.edit.EditRefusal.{EditRefusal}
use Rattle.share_catalog.specs.declared.held.Held.{Held}
use Rattle.share_catalog.specs.Fits.{Fits}
use Rattle.share_catalog.specs.HeldMaps.{HasRoom, maps_of}
use Rattle.share_catalog.specs.Spares.{IsSpare}

-- the edits that were accepted, the oldest first, and for how many more memory is taken already
pub record CatalogState : Type 0 where
  pub edits : List Edit
  pub spare : ℕ

-- Ok where there is no refusal
abbrev pub unless : Option EditRefusal → Result (Unit {0}) EditRefusal
unless None = Ok tt
unless (Some refusal) = Err refusal

abbrev pub spare_count : Option Spare → ℕ
spare_count None = 0
spare_count (Some s) = 1

abbrev pub IsReady : Held → Option Spare → Type 0
IsReady h None = ⊤
IsReady h (Some s) = HasRoom h × IsSpare s

pub record IsCatalog (h : Held) (edits : List Edit) (count : ℕ) (spare : Option Spare) : Type 0 where
  pub fits : Fits (maps_of h) edits
  pub counted : count ≡ length edits
  pub below : count + spare_count spare < 2 ^ 63
  pub ready : IsReady h spare
