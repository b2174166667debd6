-- Which histories are legal.
use Rattle.std.specs.Prelude.{◌≡◌, ℕ, ◌+◌, ◌^◌, ◌<◌, ◌≤◌, List, [], ◌∷◌, ◌++◌, Bool, true, false, Option, Some, None, IfSome, option_map, position, length, map, bytes_eq}
use Rattle.std.specs.List.{list_any}
use Rattle.log_actions.specs.declared.actions.Action.{Action}
use Rattle.log_replay.specs.Standing.{IsSupported}
use Rattle.log_actions.specs.CommitTexts.{printed_bytes}
use Rattle.share_catalog.specs.Catalogue.{bound_location, refusal_of}
use Rattle.share_catalog.specs.declared.edit.Edit.{Edit}
use Rattle.share_book.specs.declared.entry.LogStart.{LogStart}
use Rattle.share_book.specs.declared.entry.Entry.{Entry}
use Rattle.share_book.specs.declared.entry.Act.{Act}
use Rattle.share_book.specs.declared.entry.Act.TheVariants.{Begin, Own, Found, OwnEdit, FoundEdit, Load, Blocked, Abort}
use Rattle.share_book.specs.History.{edit_of, edits, open_on, pending, starts, table_on}
use Rattle.commit_check.specs.Lawful.{is_lawful}

abbrev pub is_at : List ℕ → LogStart → Bool
is_at location s = bytes_eq s.location location

-- a log was loaded from the location
abbrev pub has_log : List Entry → List ℕ → Bool
has_log h location = list_any (is_at location) (starts h)

-- the number of the log at a location
abbrev pub log_at : List Entry → List ℕ → Option ℕ
log_at h location = option_map (λ i. i + 1) (position (is_at location) (starts h))

-- where the logs are stored, log 1 first
abbrev pub locations_of : List Entry → List (List ℕ)
locations_of h = map (λ s. s.location) (starts h)

-- it is there, and this holds of it
abbrev pub There : {X : Type 0} → Option X → (X → Type 0) → Type 0
There None P = ⊥
There (Some x) P = P x

-- commits that are read, and whose printed texts have at most 64 MiB in sum
abbrev pub IsKeptLog : List (List Action) → Type 0
IsKeptLog log = IsSupported log × (printed_bytes log ≤ 2 ^ 26)

-- the log of a table takes the commit
abbrev pub TakesCommit : List Entry → ℕ → List Action → Type 0
TakesCommit h j c = (0 < j) × There (table_on j h) (λ t. (t.block ≡ None) × IsKeptLog (t.commits ++ c ∷ []))

-- the catalogue takes the edit, and a table that it binds has a log
abbrev pub TakesEdit : List Entry → ℕ → Edit → Type 0
TakesEdit h j e = (j ≡ 0) × (refusal_of (edits h) e ≡ None) × IfSome (bound_location e) (λ location. has_log h location ≡ true)

abbrev pub TakesLog : List Entry → ℕ → LogStart → Type 0
TakesLog h j s = (j ≡ 0) × (length (starts h) < 32) × (has_log h s.location ≡ false) × IsKeptLog s.commits

-- the act fits what stands on its log
abbrev pub Fits : List Entry → ℕ → ℕ → Act → Type 0
Fits h k j Begin = (j ≤ length (starts h)) × (open_on j h ≡ None)
Fits h k j (Own c) = (open_on j h ≡ Some k) × TakesCommit h j c × There (table_on j h) (λ t. is_lawful t.commits c ≡ true)
Fits h k j (Found c) = (open_on j h ≡ Some k) × TakesCommit h j c
Fits h k j (OwnEdit e) = (open_on j h ≡ Some k) × TakesEdit h j e
Fits h k j (FoundEdit e) = (open_on j h ≡ Some k) × TakesEdit h j e
Fits h k j (Load s) = (open_on j h ≡ Some k) × TakesLog h j s
Fits h k j (Blocked n) = (open_on j h ≡ Some k) × (0 < j) × There (table_on j h) (λ t. (t.block ≡ None) × (length t.commits ≡ n))
Fits h k j Abort = open_on j h ≡ Some k

-- after a load comes an edit that binds its location
abbrev pub Follows : Option LogStart → Act → Type 0
Follows None a = Unit {0}
Follows (Some s) a = There (edit_of a) (λ e. bound_location e ≡ Some s.location)

abbrev pub May : List Entry → Entry → Type 0
May h e = Follows (pending h) e.act × Fits h e.caller e.log e.act

-- each entry may stand after those before it
abbrev pub IsLegal : List Entry → Type 0
IsLegal h = (before : List Entry) (e : Entry) (after : List Entry) → h ≡ before ++ e ∷ after → May before e
