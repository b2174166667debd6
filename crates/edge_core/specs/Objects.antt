-- What a store holds, and what one call of it does.
use Rattle.std.specs.Prelude.{◌≡◌, ◌⊎◌, ℕ, ◌≤◌, ◌↔◌, List, length, take, drop, Bool, true, false, Option, Some, None, IfSome, IsNone, IsSome, option_map, option_and_then, if◌then◌else◌, nat_eq, codes, filter_map}
use Rattle.std.specs.Bool.{OnTrue}
use Rattle.std.specs.List.{starts_with}
use Rattle.std.specs.Ordering.{nat_cmp}
use Rattle.std.specs.Cmp.Lexicographic.{slice_cmp}
use Rattle.std.specs.FinMap as map
use Rattle.edge_core.specs.Names.{has_slash}
use Rattle.edge_core.specs.declared.store.Got.{Got}
use Rattle.edge_core.specs.declared.store.Got.TheVariants as got
use Rattle.edge_core.specs.declared.store.Measured.{Measured}
use Rattle.edge_core.specs.declared.store.Measured.TheVariants as measured
use Rattle.edge_core.specs.declared.store.Put.{Put}
use Rattle.edge_core.specs.declared.store.Put.TheVariants as put
use Rattle.edge_core.specs.declared.store.Listed.{Listed}
use Rattle.edge_core.specs.declared.store.Listed.TheVariants as listed

-- bytes by name, in byte order of name
abbrev pub Objects : Type 0
Objects = map.FinMap (slice_cmp nat_cmp) (List ℕ)

-- what follows a prefix
abbrev pub after_prefix : List ℕ → List ℕ → Option (List ℕ)
after_prefix prefix bytes = if starts_with nat_eq bytes prefix then Some (drop (length prefix) bytes) else None

-- bytes without a slash
abbrev pub single : List ℕ → Option (List ℕ)
single bytes = if has_slash bytes then None else Some bytes

-- the last segment of a name that stands directly in a folder
abbrev pub segment_in : List ℕ → List ℕ → Option (List ℕ)
segment_in dir name = option_and_then single (option_and_then (after_prefix (codes "/")) (after_prefix dir name))

abbrev pub segments_in : List ℕ → List (List ℕ × List ℕ) → List (List ℕ)
segments_in dir objects = filter_map (λ o. segment_in dir o.0) objects

-- the last segments of the objects directly in a folder, in byte order
abbrev pub listing : List ℕ → Objects → List (List ℕ)
listing dir objects = segments_in dir (map.entries objects)

-- what an old name had it has
abbrev pub GrowsTo : Objects → Objects → Type 0
GrowsTo old new = (name bytes : List ℕ) → map.get old name ≡ Some bytes → map.get new name ≡ Some bytes

-- what holds of the old and the new value; an object that doesn't tell never begins to, and one that tells goes on
abbrev pub Told : {A : Type 0} → Option A → Option A → (A → A → Type 0) → Type 0
Told None new P = new ≡ None
Told (Some x) None P = IsNone (Some x)
Told (Some x) (Some y) P = P x y

-- an object that tells goes on telling, and what an old name had it has
abbrev pub Grows : Option Objects → Option Objects → Type 0
Grows old new = Told old new GrowsTo

-- at one moment between these two this holds of the objects, where the object tells
abbrev pub Between : Option Objects → Option Objects → (Objects → Type 0) → Type 0
Between old new P = (seen : Option Objects) × Grows old seen × Grows seen new × IfSome seen P

-- A call that stores nothing: others may have added, but not where the store is alone.
pub record Looks (old new : Option Objects) (alone : Bool) : Type 0 where
  pub grows : Grows old new
  pub same : OnTrue alone (new ≡ old)

-- n bytes of the object from a place on, none exactly at or past its end
pub record IsPiece (bytes : List ℕ) (from n : ℕ) (out : List ℕ) : Type 0 where
  pub same : take n out ≡ take n (drop from bytes)
  pub none : (n ≡ 0) ↔ (length bytes ≤ from)

abbrev pub Gets : Option Objects → Option Objects → Bool → List ℕ → ℕ → Got → List ℕ → Type 0
Gets old new alone name from (got.Bytes n) out = Looks old new alone × (n ≤ length out)
    × IfSome new (λ os. (bytes : List ℕ) × (map.get os name ≡ Some bytes) × IsPiece bytes from n out)
Gets old new alone name from got.Absent out = Looks old new alone × IfSome new (λ os. map.get os name ≡ None)
Gets old new alone name from got.Failed out = Looks old new alone

abbrev pub Measures : Option Objects → Option Objects → Bool → List ℕ → Measured → Type 0
Measures old new alone name (measured.Size n) = Looks old new alone × IfSome new (λ os. option_map length (map.get os name) ≡ Some n)
Measures old new alone name measured.Absent = Looks old new alone × IfSome new (λ os. map.get os name ≡ None)
Measures old new alone name measured.Failed = Looks old new alone

abbrev pub Lists : Option Objects → Option Objects → Bool → List ℕ → Listed → Type 0
Lists old new alone dir (listed.Names names) = Looks old new alone × IfSome new (λ os. names ≡ listing dir os)
Lists old new alone dir listed.Failed = Looks old new alone
Lists old new alone dir listed.NoMemory = Looks old new alone

-- the objects with one more
abbrev pub with_object : List ℕ → List ℕ → Option Objects → Option Objects
with_object name bytes objects = option_map (λ os. map.insert os name bytes) objects

-- the name was absent
abbrev pub Lacks : List ℕ → Option Objects → Type 0
Lacks name objects = IfSome objects (λ os. map.get os name ≡ None)

-- The name was absent and now has the bytes. A store that is alone has nothing else that is new.
pub record Stores (old new : Option Objects) (alone : Bool) (name bytes : List ℕ) : Type 0 where
  pub grows : Grows old new
  pub absent : Lacks name old
  pub there : IfSome new (λ os. map.get os name ≡ Some bytes)
  pub only : OnTrue alone (new ≡ with_object name bytes old)

-- After a failed put the map is as before or has the bytes.
pub record Fails (old new : Option Objects) (alone : Bool) (name bytes : List ℕ) : Type 0 where
  pub grows : Grows old new
  pub only : OnTrue alone ((new ≡ old) ⊎ (Lacks name old × (new ≡ with_object name bytes old)))

abbrev pub Puts : Option Objects → Option Objects → Bool → List ℕ → List ℕ → Put → Type 0
Puts old new alone name bytes put.Stored = Stores old new alone name bytes
Puts old new alone name bytes put.Exists = Looks old new alone × IfSome new (λ os. IsSome (map.get os name))
Puts old new alone name bytes put.Failed = Fails old new alone name bytes

abbrev pub failed_get : Got → Bool
failed_get (got.Bytes n) = false
failed_get got.Absent = false
failed_get got.Failed = true

abbrev pub failed_size : Measured → Bool
failed_size (measured.Size n) = false
failed_size measured.Absent = false
failed_size measured.Failed = true

abbrev pub failed_put : Put → Bool
failed_put put.Stored = false
failed_put put.Exists = false
failed_put put.Failed = true

abbrev pub failed_list : Listed → Bool
failed_list (listed.Names names) = false
failed_list listed.Failed = true
failed_list listed.NoMemory = false
