-- Lists that come in pages, and the tables of all shares.
use Rattle.std.specs.Prelude.{◌≡◌, ℕ, ◌⊎◌, List, [], ◌∷◌, ◌++◌, Option, Some, None, Result, Ok, Err}
use Rattle.std.specs.List.{flat_map}
use Rattle.serde_json.specs.Data.{Data}
use Rattle.share_client.specs.Chains.{Ends, Paging, Whole}
use Rattle.share_client.specs.Lists.{Listing, page_in, share_in, table_in}
use Rattle.share_client.specs.Routes.{list_text, shares_route, tables_route}
use Rattle.share_client.specs.Sides.{Side}
use Rattle.share_client.specs.declared.fault.ClientFault.{ClientFault}
use Rattle.share_client.specs.declared.fault.ClientFault.TheVariants as fault
use Rattle.share_client.specs.declared.listing.SharedTable.{SharedTable}
use Rattle.share_client.specs.declared.server.Server.{Server}

-- a page of a list has no place of its own where it is outside the grammar
abbrev pub or_start : {P : Type 0} → Option P → Result P ℕ
or_start None = Err 0
or_start (Some page) = Ok page

-- the pages of a list, none of which may differ from another in anything
unfoldable pub list_paging : {X : Type 0} → (Data → Option X) → Server → (route : List ℕ) → Paging (Listing X)
list_paging reads server route = record {
  target = server.target;
  text = list_text server route;
  reads = λ r. or_start (page_in reads r.body.items);
  token = λ page. page.1;
  differs = λ first page. None;
}

-- the items of all pages, in order
abbrev pub all_items : {X : Type 0} → List (Listing X) → List X
all_items pages = flat_map (λ page. page.0) pages

-- the items of all pages of a list
abbrev pub Lists : {X : Type 0} → Paging (Listing X) → Result (List X) ClientFault → Side → Side → Type 0
Lists g (Ok items) old new = (pages : List (Listing _)) × (items ≡ all_items pages) × Whole g pages old new
Lists g (Err e) old new = Ends g e old new

module _ (server : Server) where
  -- the list of shares, and that of a share's tables
  abbrev pub shares : Paging (Listing (List ℕ))
  shares = list_paging share_in server shares_route

  abbrev pub tables : List ℕ → Paging (Listing SharedTable)
  tables share = list_paging table_in server (tables_route share)

  -- the tables of these shares, share after share
  abbrev pub ListsEach : List (List ℕ) → List SharedTable → Side → Side → Type 0
  ListsEach [] found old new = (found ≡ []) × (new ≡ old)
  ListsEach (share ∷ rest) found old new =
      (mid : Side) × (some more : List SharedTable)
      × Lists (tables share) (Ok some) old mid × ListsEach rest more mid new × (found ≡ some ++ more)

  -- the list of a share's tables isn't asked for, for want of memory, or failed
  abbrev pub ShareEnds : List ℕ → ClientFault → Side → Side → Type 0
  ShareEnds share e old new = ((e ≡ fault.NoMemory) × (new ≡ old)) ⊎ Lists (tables share) (Err e) old new

  -- that of one of these shares, behind those of the shares before it
  abbrev pub EachEnds : List (List ℕ) → ClientFault → Side → Side → Type 0
  EachEnds all e old new =
      (done : List (List ℕ)) × (share : List ℕ) × (rest : List (List ℕ)) × (found : List SharedTable) × (mid : Side)
      × (all ≡ done ++ share ∷ rest) × ListsEach done found old mid × ShareEnds share e mid new

  -- the tables of all shares, in the order in which the shares and their tables are listed
  abbrev pub ListsTables : Result (List SharedTable) ClientFault → Side → Side → Type 0
  ListsTables (Ok found) old new =
      (names : List (List ℕ)) × (mid : Side) × Lists shares (Ok names) old mid × ListsEach names found mid new
  ListsTables (Err e) old new =
      ((e ≡ fault.NoMemory) × (new ≡ old))
      ⊎ (Lists shares (Err e) old new
      ⊎ ((names : List (List ℕ)) × (mid : Side) × Lists shares (Ok names) old mid × EachEnds names e mid new))

-- the same of the server of a profile; each profile has one
abbrev pub ListsTablesOf : Option Server → Result (List SharedTable) ClientFault → Side → Side → Type 0
ListsTablesOf None result old new = (result ≡ Err fault.NoMemory) × (new ≡ old)
ListsTablesOf (Some server) result old new = ListsTables server result old new
