-- How the names of a listing are gathered, one table or share after another.
use Rattle.std.specs.Prelude.{◌≡◌, ℕ, ◌≤◌, List, [], ◌∷◌, ◌++◌, Bool, true, false, Option, Some, None, filter, length, map, take, bytes_eq, nat_lt, option_to_list, if◌then◌else◌}
use Rattle.page_token.specs.declared.cursor.ListKind.{ListKind}
use Rattle.page_token.specs.declared.cursor.ListKind.TheVariants as kind
use Rattle.share_catalog.specs.declared.table_name.TableName.{TableName}
use Rattle.share_reply.specs.Lists.{Names, is_behind, one, whole}
use Rattle.share_reply.specs.declared.walk.Listed.{Listed}
use Rattle.share_reply.specs.declared.walk.Listed.TheVariants as listed
use Rattle.share_reply.specs.declared.walk.Gathered.{Gathered}

-- the texts of a name
abbrev pub texts_of : Listed → List (List ℕ)
texts_of (listed.One name) = name.now ∷ []
texts_of (listed.Pair schema table) = schema.now ∷ table.now ∷ []

abbrev pub texts : List Listed → Names
texts names = map texts_of names

-- ---- tables one after another

-- it is the text before
abbrev pub is_same : Option (List ℕ) → List ℕ → Bool
is_same None x = false
is_same (Some k) x = bytes_eq x k

-- each text that isn't the one before
abbrev pub fresh : Option (List ℕ) → List (List ℕ) → List (List ℕ)
fresh before [] = []
fresh before (x ∷ xs) = if is_same before x then fresh before xs else x ∷ fresh (Some x) xs

-- the name that a table adds to a listing, behind a table of that schema
abbrev pub adds : ListKind → List ℕ → List ℕ → Option (List ℕ) → TableName → Option (List (List ℕ))
adds kind.Shares share schema before t = None
adds kind.Schemas share schema before t = if bytes_eq t.share share then (if is_same before t.schema then None else Some (one t.schema)) else None
adds kind.Tables share schema before t = if bytes_eq t.share share then (if bytes_eq t.schema schema then Some (one t.table) else None) else None
adds kind.AllTables share schema before t = if bytes_eq t.share share then Some (whole t) else None

-- the schema before the next table
abbrev pub schema_behind : List ℕ → Option (List ℕ) → TableName → Option (List ℕ)
schema_behind share before t = if bytes_eq t.share share then (if is_same before t.schema then before else Some t.schema) else before

-- the names that tables add
abbrev pub added : ListKind → List ℕ → List ℕ → Option (List ℕ) → List TableName → Names
added kind.Shares share schema before ts = []
added kind.Schemas share schema before ts = map one (fresh before (map (λ t. t.schema) (filter (λ t. bytes_eq t.share share) ts)))
added kind.Tables share schema before ts = map (λ t. one t.table) (filter (λ t. bytes_eq t.schema schema) (filter (λ t. bytes_eq t.share share) ts))
added kind.AllTables share schema before ts = map whole (filter (λ t. bytes_eq t.share share) ts)

-- ---- a page

-- the first so many of the names, and whether one is left
pub record IsGathered (most : ℕ) (all : Names) (page : Gathered) : Type 0 where
  pub given : texts page.names.items ≡ take most all
  pub left : page.is_left ≡ nat_lt most (length all)

-- what is gathered and what is still to come are the names
pub record GoesOn (most : ℕ) (all rest : Names) (names : List Listed) : Type 0 where
  pub joined : texts names ++ rest ≡ all
  pub fits : length names ≤ most

-- the page is full, and a name is left
pub record IsFull (most : ℕ) (all : Names) (names : List Listed) : Type 0 where
  pub given : texts names ≡ take most all
  pub left : nat_lt most (length all) ≡ true

abbrev pub Took : Bool → ℕ → Names → Names → List Listed → Type 0
Took true most all rest names = IsFull most all names
Took false most all rest names = GoesOn most all rest names

-- a name that came was taken in, or the page was full before it
abbrev pub TakesIn : ℕ → Names → List Listed → List Listed → Bool → Type 0
TakesIn most came old new full = (all rest : Names) → GoesOn most all (came ++ rest) old → Took full most all rest new

-- the names behind one that may have come
abbrev pub came : ListKind → List ℕ → Option (List (List ℕ)) → Names
came k after name = filter (is_behind k after) (option_to_list name)
