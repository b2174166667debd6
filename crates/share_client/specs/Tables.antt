-- A table's files, or its changes, that come in pages.
use Rattle.std.specs.Prelude.{◌≡◌, ℕ, List, [], ◌∷◌, length, Option, Some, None, Result, Ok, Err}
use Rattle.std.specs.List.{flat_map}
use Rattle.share_lines.specs.declared.kinds.FileLine.{FileLine}
use Rattle.share_lines.specs.declared.kinds.Line.{Line}
use Rattle.share_lines.specs.declared.kinds.Line.TheVariants as line
use Rattle.share_lines.specs.declared.kinds.MetaLine.{MetaLine}
use Rattle.delta_lines.specs.declared.kinds.DeltaFile.{DeltaFile}
use Rattle.share_client.specs.Chains.{Ends, Paging, Whole}
use Rattle.share_client.specs.DeltaPages.{delta, delta_file_in}
use Rattle.share_client.specs.Sides.{Side}
use Rattle.share_client.specs.TablePages.{Form, TablePage, change_in, changed, file_in, parquet, table_page_in}
use Rattle.share_client.specs.TableRequests.{changes_text, delta_query_text, query_text}
use Rattle.share_client.specs.declared.delta_page.DeltaFront.{DeltaFront}
use Rattle.share_client.specs.declared.table_read.DeltaRead.{DeltaRead}
use Rattle.share_client.specs.declared.fault.ClientFault.{ClientFault}
use Rattle.share_client.specs.declared.fault.ClientFault.TheVariants as fault
use Rattle.share_client.specs.declared.listing.SharedTable.{SharedTable}
use Rattle.share_client.specs.declared.server.Server.{Server}
use Rattle.share_client.specs.declared.table_read.TableRead.{TableRead}

-- the pages that such requests ask for in that form: none may have another version or front than the first
unfoldable pub table_paging : {L F X : Type 0} → Form L F → (L → Option X) → Server → (text : Option (List ℕ) → List ℕ) → Paging (TablePage F X)
table_paging form reads server text = record {
  target = server.target;
  text = text;
  reads = table_page_in form reads;
  token = λ page. page.token;
  differs = λ first page. changed first.head page.head;
}

-- the files that a query asks for
abbrev pub files : Server → SharedTable → (body : List ℕ) → Paging (TablePage MetaLine FileLine)
files server t body = table_paging parquet file_in server (query_text server t body)

-- the same in the delta format
abbrev pub delta_files : Server → SharedTable → (body : List ℕ) → Paging (TablePage DeltaFront DeltaFile)
delta_files server t body = table_paging delta delta_file_in server (delta_query_text server t body)

-- the changes from a version to another
abbrev pub changes : Server → SharedTable → (from to : ℕ) → Paging (TablePage MetaLine Line)
changes server t from to = table_paging parquet change_in server (changes_text server t from to)

-- the files or changes of all pages, in order
abbrev pub joined : {F X : Type 0} → List (TablePage F X) → List X
joined pages = flat_map (λ page. page.content) pages

-- what is answered of pages: the version and the metadata of the first, the files of all, and how many there are
abbrev pub IsRead : List (TablePage MetaLine FileLine) → TableRead → Type 0
IsRead [] read = ⊥
IsRead (first ∷ pages) read =
    (read.version ≡ first.head.version) × (read.meta ≡ line.MetaData first.head.front)
    × (read.files.items ≡ joined (first ∷ pages)) × (read.pages ≡ length (first ∷ pages))

-- all pages came, or they ended before the last
abbrev pub ReadsTable : Paging (TablePage MetaLine FileLine) → Result TableRead ClientFault → Side → Side → Type 0
ReadsTable g (Ok read) old new = (pages : List (TablePage MetaLine FileLine)) × Whole g pages old new × IsRead pages read
ReadsTable g (Err e) old new = Ends g e old new

-- in the delta format: the protocol and the metadata of the first page besides
abbrev pub IsDeltaRead : List (TablePage DeltaFront DeltaFile) → DeltaRead → Type 0
IsDeltaRead [] read = ⊥
IsDeltaRead (first ∷ pages) read =
    (read.version ≡ first.head.version) × (read.protocol ≡ first.head.front.protocol) × (read.meta ≡ first.head.front.meta)
    × (read.files.items ≡ joined (first ∷ pages)) × (read.pages ≡ length (first ∷ pages))

abbrev pub ReadsDelta : Paging (TablePage DeltaFront DeltaFile) → Result DeltaRead ClientFault → Side → Side → Type 0
ReadsDelta g (Ok read) old new = (pages : List (TablePage DeltaFront DeltaFile)) × Whole g pages old new × IsDeltaRead pages read
ReadsDelta g (Err e) old new = Ends g e old new

abbrev pub ReadsChanges : Paging (TablePage MetaLine Line) → Result (List Line) ClientFault → Side → Side → Type 0
ReadsChanges g (Ok lines) old new = (pages : List (TablePage MetaLine Line)) × Whole g pages old new × (lines ≡ joined pages)
ReadsChanges g (Err e) old new = Ends g e old new

-- the same of the server of a profile; each profile has one
abbrev pub ReadsTableOf : Option Server → SharedTable → (body : List ℕ) → Result TableRead ClientFault → Side → Side → Type 0
ReadsTableOf None t body result old new = (result ≡ Err fault.NoMemory) × (new ≡ old)
ReadsTableOf (Some server) t body result old new = ReadsTable (files server t body) result old new

abbrev pub ReadsDeltaOf : Option Server → SharedTable → (body : List ℕ) → Result DeltaRead ClientFault → Side → Side → Type 0
ReadsDeltaOf None t body result old new = (result ≡ Err fault.NoMemory) × (new ≡ old)
ReadsDeltaOf (Some server) t body result old new = ReadsDelta (delta_files server t body) result old new

abbrev pub ReadsChangesOf : Option Server → SharedTable → (from to : ℕ) → Result (List Line) ClientFault → Side → Side → Type 0
ReadsChangesOf None t from to result old new = (result ≡ Err fault.NoMemory) × (new ≡ old)
ReadsChangesOf (Some server) t from to result old new = ReadsChanges (changes server t from to) result old new
