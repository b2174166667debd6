-- What is read of a store.
use Rattle.std.proofs.Common.{◌≡◌, ℕ, ◌<◌, ◌≤◌, ◌^◌, nat_le, List, length, Option, Some, None, Result, Ok, Err, Bool, true, false, subst, ap, refl, ◌∙◌, arith, inl, inr, if◌then◌else◌}
use Rattle.std.specs.Prelude.{IfSome, option_map}
use Rattle.std.specs.FinMap as finmap
use Rattle.std.proofs.lemmas.Bool.Decides.{leb_tells}
use Rattle.edge_core.specs.Objects.{Between, Objects}
use Rattle.log_store.specs.Loads.{IsFetched}
use Rattle.log_store.specs.Log.{log_in}
use Rattle.log_store.specs.declared.loaded.Loaded.{Loaded}
use Rattle.log_store.specs.declared.reading.Fetched.{Fetched}
use Rattle.log_store.specs.declared.reading.Fetched.TheVariants as fetched
use Rattle.log_store.specs.declared.refusal.LoadRefusal.{LoadRefusal}
use Rattle.catalog_log.specs.RecordNames.{record_name_of}
use Rattle.catalog_log.specs.Records.{record_in}
use Rattle.catalog_log.specs.declared.fault.RecordFault.{RecordFault}
use Rattle.catalog_log.specs.declared.fault.RecordFault.TheVariants as fault
use Rattle.share_catalog.specs.declared.edit.Edit.{Edit}
use Rattle.share_book.specs.declared.entry.LogStart.{LogStart}
use Rattle.hub_catalog.specs.CatalogTurns.{start_from, start_of_loaded}
use Rattle.hub_catalog.specs.Records.{IsRead, ReadsAs, record_at, stored_record}
use Rattle.hub_catalog.specs.declared.record.Read.{Read}
use Rattle.hub_catalog.specs.declared.record.Read.TheVariants as read

short_by : (b : Bool) (bytes : List ℕ) → b ≡ true → if◌then◌else◌ {A = Result Edit RecordFault} b (record_in bytes) (Err fault.BadRecord) ≡ record_in bytes
short_by true bytes e = refl
short_by false bytes e = absurd cc

long_by : (b : Bool) (bytes : List ℕ) → b ≡ false → if◌then◌else◌ {A = Result Edit RecordFault} b (record_in bytes) (Err fault.BadRecord) ≡ Err fault.BadRecord
long_by true bytes e = absurd cc
long_by false bytes e = refl

short_record : (bytes : List ℕ) → length bytes ≤ 2 ^ 24 → stored_record bytes ≡ record_in bytes
short_record bytes l = elim (leb_tells (length bytes) (2 ^ 24)) [ inl w ↦ short_by (nat_le (length bytes) (2 ^ 24)) bytes w.0 | inr w ↦ (let w1 = w.1 in absurd (omega arith)) ]

long_record : (bytes : List ℕ) → 2 ^ 24 < length bytes → stored_record bytes ≡ Err fault.BadRecord
long_record bytes l = elim (leb_tells (length bytes) (2 ^ 24)) [ inl w ↦ (let w1 = w.1 in absurd (omega arith)) | inr w ↦ long_by (nat_le (length bytes) (2 ^ 24)) bytes w.0 ]

pub absent_read : ReadsAs fetched.Absent (Ok read.Absent)
absent_read found f = ap (option_map stored_record) f

pub long_read : ReadsAs fetched.TooLong (Ok (read.Bad fault.BadRecord))
long_read None f = absurd f
long_read (Some bytes) f = ap (λ (r : Result Edit RecordFault). Some r) (long_record bytes f)

pub bytes_read : (v : _) (r : Result Edit RecordFault) (found : Option (List ℕ)) → record_in v ≡ r → (found ≡ Some v) × (length v ≤ 2 ^ 24) → option_map stored_record found ≡ Some r
bytes_read v r found e f = ap (option_map stored_record) f.0 ∙ ap (λ (x : Result Edit RecordFault). Some x) (short_record v f.1 ∙ e)

pub reads : (o : Option Objects) (name : List ℕ) (n : ℕ) (f : Fetched) (r : Result Read LoadRefusal) → name ≡ record_name_of n → IfSome o (λ os. IsFetched (2 ^ 24) (finmap.get os name) (Ok f)) → ReadsAs f r → IfSome o (λ os. IsRead (record_at os n) r)
reads None name n f r e w h = tt
reads (Some os) name n f r e w h = subst (λ (m : List ℕ). IsRead (option_map stored_record (finmap.get os m)) r) e (h (finmap.get os name) w)

pub nothing_read : (o : Option Objects) (n : ℕ) (r : LoadRefusal) → IfSome o (λ os. IsRead (record_at os n) (Err r))
nothing_read None n r = tt
nothing_read (Some os) n r = tt

some_map : {X : Type 0} (o : Option X) (P Q : X → Type 0) → ((x : X) → P x → Q x) → IfSome o P → IfSome o Q
some_map None P Q f w = tt
some_map (Some x) P Q f w = f x w

between_map : (old new : Option Objects) (P Q : Objects → Type 0) → ((os : Objects) → P os → Q os) → Between old new P → Between old new Q
between_map old new P Q f b = (b.0, b.1, b.2, some_map b.0 P Q f b.3)

pub new_start : (old new : Option Objects) (location : List ℕ) (l : Loaded) (s : LogStart) → s ≡ start_of_loaded location l → Between old new (λ os. l ≡ log_in location os) → Between old new (λ os. s ≡ start_from location os)
new_start old new location l s e b = between_map old new (λ os. l ≡ log_in location os) (λ os. s ≡ start_from location os) (λ os q. e ∙ ap (start_of_loaded location) q) b
