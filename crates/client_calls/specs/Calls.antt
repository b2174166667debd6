-- What a client's calls ask of a server and print (Delta Sharing PROTOCOL.md, "REST APIs").
use Rattle.std.specs.Prelude.{◌≡◌, ◌⊎◌, ℕ, List, Option, Some, None, Result, Ok, Err, ⊤}
use Rattle.std.specs.Io.KnownBytes.{append_known}
use mathlib.Core.List.{IsPrefix}
use Rattle.edge_core.specs.Faults.{Rose}
use Rattle.share_client.specs.Files.{Fetches}
use Rattle.share_client.specs.Listings.{ListsTablesOf}
use Rattle.share_client.specs.Pieces.{PiecesAt}
use Rattle.share_client.specs.Servers.{server_in}
use Rattle.share_client.specs.Sides.{CausedBy, Counts, Side}
use Rattle.share_client.specs.Tables.{ReadsChangesOf, ReadsTableOf}
use Rattle.share_client.specs.Targets.{target_in}
use Rattle.share_client.specs.declared.fault.ClientFault.{ClientFault}
use Rattle.share_client.specs.declared.fault.ClientFault.TheVariants as fault
use Rattle.share_client.specs.declared.listing.SharedTable.{SharedTable}
use Rattle.share_client.specs.declared.table_read.TableRead.{TableRead}
use Rattle.share_config.specs.declared.profile.Profile.{Profile}
use Rattle.share_lines.specs.Printing.{body_text}
use Rattle.share_lines.specs.declared.kinds.Line.{Line}
use Rattle.client_calls.specs.Texts.{read_text, tables_text}
use Rattle.client_calls.specs.declared.call.Call.{Call}
use Rattle.client_calls.specs.declared.call.Call.TheVariants as calls

-- ---- the answer of a call, as it is printed

abbrev pub ListsText : Profile → Result (List ℕ) ClientFault → Side → Side → Type 0
ListsText p (Ok text) old new = (tables : List SharedTable) × (text ≡ tables_text tables) × ListsTablesOf (server_in p) (Ok tables) old new
ListsText p (Err e) old new = ListsTablesOf (server_in p) (Err e) old new

abbrev pub ReadsText : Profile → SharedTable → (body : List ℕ) → Result (List ℕ) ClientFault → Side → Side → Type 0
ReadsText p t body (Ok text) old new = (read : TableRead) × (text ≡ read_text read) × ReadsTableOf (server_in p) t body (Ok read) old new
ReadsText p t body (Err e) old new = ReadsTableOf (server_in p) t body (Err e) old new

abbrev pub ChangesText : Profile → SharedTable → (from to : ℕ) → Result (List ℕ) ClientFault → Side → Side → Type 0
ChangesText p t from to (Ok text) old new = (lines : List Line) × (text ≡ body_text lines) × ReadsChangesOf (server_in p) t from to (Ok lines) old new
ChangesText p t from to (Err e) old new = ReadsChangesOf (server_in p) t from to (Err e) old new

-- ---- what a sink gets of it

-- the text wasn't made, for want of memory, or the sink failed behind a front of it
abbrev pub Stopped : (text : List ℕ) → (held held_new : Option (List ℕ)) → ClientFault → Type 0
Stopped text held held_new e =
    ((e ≡ fault.NoMemory) × (held_new ≡ held)) ⊎ ((e ≡ fault.WriteFault) × ((front : List ℕ) × IsPrefix front text × (held_new ≡ append_known held front)))

-- the text of the answer was written, or why it wasn't
abbrev pub Prints : (Result (List ℕ) ClientFault → Side → Side → Type 0) → (held held_new : Option (List ℕ)) → Result ⊤ ClientFault → Side → Side → Type 0
Prints Says held held_new (Ok done) old new = (text : List ℕ) × Says (Ok text) old new × (held_new ≡ append_known held text)
Prints Says held held_new (Err e) old new =
    ((held_new ≡ held) × Says (Err e) old new) ⊎ ((text : List ℕ) × Says (Ok text) old new × Stopped text held held_new e)

-- the file was written, or why it wasn't
abbrev pub FetchesFile : (url : List ℕ) → (held held_new : Option (List ℕ)) → Result ⊤ ClientFault → Side → Side → Type 0
FetchesFile url held held_new (Ok done) old new = (size : ℕ) × Fetches url held held_new (Ok size) old new
FetchesFile url held held_new (Err e) old new = Fetches url held held_new (Err e) old new

-- the file was written piece by piece, or why it wasn't, or not all of it
abbrev pub FetchesPieces : (url : List ℕ) → (piece : ℕ) → (held held_new : Option (List ℕ)) → Result ⊤ ClientFault → Side → Side → Type 0
FetchesPieces url piece held held_new (Ok done) old new = (size : ℕ) × PiecesAt (target_in url) piece held held_new (Ok size) old new
FetchesPieces url piece held held_new (Err e) old new = PiecesAt (target_in url) piece held held_new (Err e) old new

-- the call, made with a profile, over a link that tells its lines, to a sink that held something
abbrev pub Performs : Profile → Call → (held held_new : Option (List ℕ)) → Result ⊤ ClientFault → Side → Side → Type 0
Performs p calls.Tables held held_new result old new = Prints (ListsText p) held held_new result old new
Performs p (calls.Read t body) held held_new result old new = Prints (ReadsText p t body) held held_new result old new
Performs p (calls.Changes t from to) held held_new result old new = Prints (ChangesText p t from to) held held_new result old new
Performs p (calls.Fetch url) held held_new result old new = FetchesFile url held held_new result old new
Performs p (calls.FetchPieces url piece) held held_new result old new = FetchesPieces url piece held held_new result old new

-- ---- causes, also over a link that doesn't tell

-- a fault of the outside comes only where its count rose: the link's, or for a write the sink's
abbrev pub CallCause : Result ⊤ ClientFault → (old new : Counts) → (before now : ℕ) → Type 0
CallCause (Err fault.BadUrl) old new before now = ⊤
CallCause result old new before now = CausedBy result (Rose old.opens new.opens) (Rose old.reads new.reads) (Rose old.writes new.writes ⊎ Rose before now)

abbrev pub TellsUrl : {X : Type 0} → Option X → Result ⊤ ClientFault → Type 0
TellsUrl None result = (result ≡ Err fault.BadUrl) ⊎ (result ≡ Err fault.NoMemory)
TellsUrl (Some target) result = ¬ (result ≡ Err fault.BadUrl)

-- A url that is no link is told, but where memory is wanting, and only such a one.
abbrev pub TellsBadUrl : Call → Result ⊤ ClientFault → Type 0
TellsBadUrl (calls.Fetch url) result = TellsUrl (target_in url) result
TellsBadUrl (calls.FetchPieces url piece) result = TellsUrl (target_in url) result
TellsBadUrl _ result = ¬ (result ≡ Err fault.BadUrl)
