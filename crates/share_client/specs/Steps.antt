-- What the parts of a call say to one another.
use Rattle.std.specs.Prelude.{◌≡◌, ℕ, Bool, List, [], ◌++◌, Option, Result, Ok, Err, ⊤}
use Rattle.std.specs.Io.KnownBytes.{append_known}
use mathlib.Core.List.{IsPrefix}
use Rattle.edge_core.specs.Faults.{Rose}
use Rattle.share_client.specs.Chains.{Paging, Turn, TurnFails}
use Rattle.share_client.specs.Exchanges.{Talked}
use Rattle.share_client.specs.Listings.{Lists, ShareEnds, tables}
use Rattle.share_client.specs.Lists.{Listing}
use Rattle.share_client.specs.Sides.{Side}
use Rattle.share_client.specs.declared.exchange.Response.{Response}
use Rattle.share_client.specs.declared.fault.ClientFault.{ClientFault}
use Rattle.share_client.specs.declared.fault.ClientFault.TheVariants as fault
use Rattle.share_client.specs.declared.listing.SharedTable.{SharedTable}
use Rattle.share_client.specs.declared.server.Server.{Server}

-- what is read of a peer whose bytes are these
abbrev pub Receives : Bool → List ℕ → Result Response ClientFault → Type 0
Receives to_head bytes result = Talked to_head [] bytes [] result

-- the whole text was written, or its front where a write failed
abbrev pub Sends : Option (List ℕ) → Option (List ℕ) → (before now : ℕ) → List ℕ → Result ⊤ ClientFault → Type 0
Sends old new before now text (Ok all) = new ≡ append_known old text
Sends old new before now text (Err e) = (e ≡ fault.WriteFault) × Rose before now × ((front : List ℕ) × IsPrefix front text × (new ≡ append_known old front))

-- a page came, and its items stand behind those that were there; or why none came
abbrev pub ListTurn : {X : Type 0} → Paging (Listing X) → Option (List ℕ) → (was now : List X) → Result (Option (List ℕ)) ClientFault → Side → Side → Type 0
ListTurn g token was now (Ok next) old new = (items : List _) × (now ≡ was ++ items) × Turn g token (items, next) old new
ListTurn g token was now (Err e) old new = TurnFails g token e old new

-- the list is read, and its items stand behind those that were there
abbrev pub OntoAll : {X : Type 0} → Paging (Listing X) → (was now : List X) → Side → Side → Type 0
OntoAll g was now old new = (items : List _) × (now ≡ was ++ items) × Lists g (Ok items) old new

abbrev pub ListsOnto : {X : Type 0} → Paging (Listing X) → (was now : List X) → Result ⊤ ClientFault → Side → Side → Type 0
ListsOnto g was now (Ok all) old new = OntoAll g was now old new
ListsOnto g was now (Err e) old new = Lists g (Err e) old new

-- the tables of a share are read, behind those that were there
abbrev pub ShareLists : Server → List ℕ → (was now : List SharedTable) → Result ⊤ ClientFault → Side → Side → Type 0
ShareLists server share was now (Ok all) old new = OntoAll (tables server share) was now old new
ShareLists server share was now (Err e) old new = ShareEnds server share e old new
