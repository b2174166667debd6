-- What one turn on the catalogue does to a pass.
use Rattle.std.specs.Prelude.{◌≡◌, ℕ, List, [], ◌∷◌, ◌++◌, Option, Some, None, length, map}
use mathlib.Core.List.{IsPrefix}
use Rattle.share_catalog.specs.declared.edit.Edit.{Edit}
use Rattle.share_book.specs.declared.entry.Entry.{Entry}
use Rattle.share_book.specs.declared.entry.Act.{Act}
use Rattle.share_book.specs.declared.entry.LogStart.{LogStart}
use Rattle.share_book.specs.declared.entry.Act.TheVariants.{Begin, FoundEdit, Abort}
use Rattle.share_book.specs.History.{edits, entry, open_on}
use Rattle.hub_catalog.specs.declared.catalog_turns.Checked.{Checked}
use Rattle.hub_catalog.specs.declared.catalog_turns.Opened.{Opened}
use Rattle.hub_catalog.specs.declared.catalog_turns.Opened.TheVariants as opened
use Rattle.hub_catalog.specs.declared.catalog_turns.Published.{Published}
use Rattle.hub_catalog.specs.declared.catalog_turns.Published.TheVariants as published
use Rattle.hub_catalog.specs.CatalogTurns.{ChecksIn, loading}
use Rattle.hub_calls.specs.Calls.{Adds, P}

-- an edit that was found in the store, and the log that was loaded for it
pub record Step : Type 0 where
  pub load : Option LogStart
  pub edit : Edit

abbrev pub edit_in : Step → Edit
edit_in x = x.edit

-- the entries of edits that were found
abbrev pub finds : ℕ → List Step → List Entry
finds k [] = []
finds k (x ∷ xs) = loading k x.load (FoundEdit x.edit) ++ finds k xs

-- the caller's Begin is open on log 0, and there are so many edits
pub record HasBegun (p : P) (n : ℕ) : Type 0 where
  pub holder : open_on 0 p.seen ≡ Some p.number
  pub count : n ≡ length (edits p.seen)

-- a Begin stands after what was seen, and is the last that is seen now
pub record BeginsAt (from : List Entry) (p q : P) (n : ℕ) : Type 0 where
  pub after : IsPrefix p.seen from
  pub last : q.seen ≡ from ++ entry p.number 0 Begin ∷ []
  pub added : Adds p q (entry p.number 0 Begin ∷ [])
  pub begun : HasBegun q n
  pub edits : edits q.seen ≡ edits from

abbrev pub Begins : Opened → P → P → Type 0
Begins (opened.Open n) p q = (from : List Entry) × BeginsAt from p q n
Begins opened.Held p q = Adds p q []
Begins opened.NoMemory p q = Adds p q []

abbrev pub Starts : Option ℕ → P → P → Type 0
Starts (Some n) p q = (from : List Entry) × BeginsAt from p q n
Starts None p q = Adds p q []

-- These found edits were added since, and what the caller has begun is still open.
pub record Goes (p q : P) (xs : List Step) : Type 0 where
  pub added : Adds p q (finds p.number xs)
  pub holder : open_on 0 q.seen ≡ Some q.number
  pub edits : edits q.seen ≡ edits p.seen ++ map edit_in xs

-- These found edits were added since, and then the act that ends what the caller has begun, perhaps after a log.
pub record Stops (p q : P) (xs : List Step) (l : Option LogStart) (a : Act) : Type 0 where
  pub added : Adds p q (finds p.number xs ++ loading p.number l a)
  pub before : List Entry
  pub last : q.seen ≡ before ++ entry p.number 0 a ∷ []
  pub edits : edits before ≡ edits p.seen ++ map edit_in xs

abbrev pub Finds : Published → Step → P → P → Type 0
Finds (published.Open n) x p q = Goes p q (x ∷ []) × (n ≡ length (edits q.seen))
Finds published.NoMemory x p q = Stops p q (x ∷ []) None Abort

-- it adds nothing, and says what holds at the end of what is seen
pub record Checks (r : Checked) (e : Edit) (p q : P) : Type 0 where
  pub same : Goes p q []
  pub told : ChecksIn r e q.seen
