-- What the parts of a call that reads a table say to one another.
use Rattle.std.specs.Prelude.{◌≡◌, ℕ, List, [], ◌∷◌, ◌++◌, length, Option, Some, None, Result, Ok, Err, ⊤}
use Rattle.share_client.specs.Chains.{Ends, Misread, Paging, Turn, TurnFails, Whole}
use Rattle.share_client.specs.Lists.{Listing}
use Rattle.share_client.specs.Reads.{Unread}
use Rattle.share_client.specs.Sides.{Side}
use Rattle.share_client.specs.TablePages.{TablePage, changed}
use Rattle.share_client.specs.Tables.{joined}
use Rattle.share_client.specs.declared.fault.ClientFault.{ClientFault}
use Rattle.share_client.specs.declared.fault.ClientFault.TheVariants as fault
use Rattle.share_client.specs.declared.page_head.PageHead.{PageHead}

-- the fault that says in what a page differs, or want of memory
abbrev pub TellsChange : Option (List ℕ × List ℕ) → ClientFault → Type 0
TellsChange change (fault.PageChanged first other) = change ≡ Some (first, other)
TellsChange change fault.NoMemory = ⊤
TellsChange change _ = ⊥

abbrev pub Compares : Option (List ℕ × List ℕ) → Result ⊤ ClientFault → Type 0
Compares change (Ok same) = change ≡ None
Compares change (Err e) = TellsChange change e

-- the token of a page that differs in nothing from the first
abbrev pub IsBehind : {F : Type 0} → (first : PageHead F) → PageHead F × Option (List ℕ) → Result (Option (List ℕ)) ClientFault → Type 0
IsBehind first page (Ok token) = (changed first page.0 ≡ None) × (token ≡ page.1)
IsBehind first page (Err e) = TellsChange (changed first page.0) e

-- the front and the token of a page whose content stands behind what was there
abbrev pub ReadsParts : {F X : Type 0} → (was now : List X) → Option (F × Listing X) → Result (F × Option (List ℕ)) ClientFault → Type 0
ReadsParts was now read (Ok parts) = (content : List _) × (read ≡ Some (parts.0, (content, parts.1))) × (now ≡ was ++ content)
ReadsParts was now read (Err e) = Unread read e

-- the head and the token of a page whose content stands behind what was there
abbrev pub IsOnto : {F X : Type 0} → (was now : List X) → TablePage F X → PageHead F × Option (List ℕ) → Type 0
IsOnto was now page found = (now ≡ was ++ page.content) × (found.0 ≡ page.head) × (found.1 ≡ page.token)

abbrev pub ReadsTablePage : {F X : Type 0} → (was now : List X) → Result (TablePage F X) ℕ → Result (PageHead F × Option (List ℕ)) ClientFault → Type 0
ReadsTablePage was now read (Ok found) = (page : TablePage _ _) × (read ≡ Ok page) × IsOnto was now page found
ReadsTablePage was now read (Err e) = Misread read e

-- a page came, or why none did
abbrev pub TableTurn : {F X : Type 0} → Paging (TablePage F X) → Option (List ℕ) → (was now : List X) → Result (PageHead F × Option (List ℕ)) ClientFault → Side → Side → Type 0
TableTurn g token was now (Ok found) old new = (page : TablePage _ _) × Turn g token page old new × IsOnto was now page found
TableTurn g token was now (Err e) old new = TurnFails g token e old new

-- the head of the first of these pages
abbrev pub first_head : {F X : Type 0} → List (TablePage F X) → Option (PageHead F)
first_head [] = None
first_head (page ∷ pages) = Some page.head

-- all pages came, and what they have stands behind what was there; the answer is the first page's head, and how many there are
abbrev pub PagesOnto : {F X : Type 0} → Paging (TablePage F X) → (was now : List X) → Result (PageHead F × ℕ) ClientFault → Side → Side → Type 0
PagesOnto g was now (Ok found) old new =
    (pages : List (TablePage _ _)) × Whole g pages old new × (now ≡ was ++ joined pages)
    × (first_head pages ≡ Some found.0) × (found.1 ≡ length pages)
PagesOnto g was now (Err e) old new = Ends g e old new

abbrev pub with_first : {F : Type 0} → PageHead F → Result ℕ ClientFault → Result (PageHead F × ℕ) ClientFault
with_first first (Ok many) = Ok (first, many)
with_first first (Err e) = Err e

-- what came behind a first page of that head and token makes all pages of it
abbrev pub PagesBehind : {F X : Type 0} → Paging (TablePage F X) → (first : PageHead F) → (token : List ℕ) → (was now : List X) → Result ℕ ClientFault → Side → Side → Type 0
PagesBehind g first token was now result old new =
    (start : Side) → (before : List _) → TableTurn g None before was (Ok (first, Some token)) start old
    → PagesOnto g before now (with_first first result) start new
