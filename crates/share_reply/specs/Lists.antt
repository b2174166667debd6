-- The listings of shares, schemas and tables (Delta Sharing PROTOCOL.md, "List Shares", "List Schemas in a Share", "List Tables in a Schema", "List all Tables in a Share"). A listing isn't pinned: a page has the names there are now behind the last one given.
use Rattle.std.specs.Prelude.{ℕ, ◌==◌, ◌&&◌, List, [], ◌∷◌, ◌++◌, Bool, true, Option, Some, None, Result, Ok, Err, filter, length, map, take, bytes_eq, codes, nat_lt, if◌then◌else◌}
use Rattle.std.specs.List.{after_first, before_first, dedup, list_any}
use Rattle.std.specs.Ordering.{is_lt}
use Rattle.case_table.specs.declared.refuse.Refusal.TheVariants.{NotFound, TokenInvalid}
use Rattle.page_token.specs.Cursors.{cursor_of}
use Rattle.page_token.specs.Payload.{kind_field}
use Rattle.page_token.specs.declared.cursor.Cursor.{Cursor}
use Rattle.page_token.specs.declared.cursor.Cursor.TheVariants as cursor
use Rattle.page_token.specs.declared.cursor.ListCursor.{ListCursor}
use Rattle.page_token.specs.declared.cursor.ListKind.{ListKind}
use Rattle.page_token.specs.declared.cursor.ListKind.TheVariants as kind
use Rattle.share_book.specs.NamesView.{NamesView}
use Rattle.share_catalog.specs.TableNames.{texts_cmp}
use Rattle.share_catalog.specs.declared.table_name.TableName.{TableName}
use Rattle.share_request.specs.declared.asked.ListPage.{ListPage}
use Rattle.share_reply.specs.Answer.{NamesPage}
use Rattle.share_reply.specs.Refusing.{Refused, plain, where_all}
use Rattle.share_reply.specs.declared.keys.ReplyKeys.{ReplyKeys}

-- A listing: of what, of which share and schema, at most how many names, and behind which token. A share or a schema that it doesn't have is the empty text.
pub record Listing : Type 0 where
  pub kind : ListKind
  pub share : List ℕ
  pub schema : List ℕ
  pub most : ℕ
  pub token : Option (List ℕ)

abbrev pub listing : ListKind → List ℕ → List ℕ → ListPage → Listing
listing k share schema page = record { kind = k; share = share; schema = schema; most = page.most; token = page.token }

-- ---- the names of a listing

-- names, each a share; a schema; a table; or a schema and a table
abbrev pub Names : Type 0
Names = List (List (List ℕ))

abbrev pub one : List ℕ → List (List ℕ)
one name = name ∷ []

abbrev pub whole : TableName → List (List ℕ)
whole t = t.schema ∷ t.table ∷ []

-- the tables of a share
abbrev pub tables_in : NamesView → List ℕ → List TableName
tables_in seen share = filter (λ t. bytes_eq t.share share) seen.tables

-- those of a schema
abbrev pub tables_of : NamesView → List ℕ → List ℕ → List TableName
tables_of seen share schema = filter (λ t. bytes_eq t.schema schema) (tables_in seen share)

-- Schemas are those that have a table. A view's tables are in byte order of share and then of schema, so a name that is dropped where it equals the one before is listed once.
abbrev pub names_in : NamesView → ListKind → List ℕ → List ℕ → Names
names_in seen kind.Shares share schema = map one seen.shares
names_in seen kind.Schemas share schema = map one (dedup bytes_eq (map (λ t. t.schema) (tables_in seen share)))
names_in seen kind.Tables share schema = map (λ t. one t.table) (tables_of seen share schema)
names_in seen kind.AllTables share schema = map whole (tables_in seen share)

abbrev pub has_share : NamesView → List ℕ → Bool
has_share seen share = list_any (bytes_eq share) seen.shares

abbrev pub has_schema : NamesView → List ℕ → List ℕ → Bool
has_schema seen share schema = list_any (λ t. bytes_eq t.schema schema) (tables_in seen share)

-- the share is granted, and the schema has a table
abbrev pub is_there : NamesView → ListKind → List ℕ → List ℕ → Bool
is_there seen kind.Shares share schema = true
is_there seen kind.Schemas share schema = has_share seen share
is_there seen kind.Tables share schema = has_share seen share && has_schema seen share schema
is_there seen kind.AllTables share schema = has_share seen share

-- ---- a page

-- the name that a token's text stands for: of all tables it is cut at its first `/`, and compared as a pair
abbrev pub name_of : ListKind → List ℕ → List (List ℕ)
name_of kind.AllTables text = before_first (λ b. b == 47) text ∷ after_first (λ b. b == 47) text ∷ []
name_of _ text = one text

-- and back
abbrev pub text_of : List (List ℕ) → List ℕ
text_of [] = []
text_of (a ∷ []) = a
text_of (a ∷ b ∷ rest) = a ++ codes "/" ++ b

-- the last name given, or where nothing is given the one before
abbrev pub last_given : Names → List ℕ → List ℕ
last_given [] after = after
last_given (n ∷ []) after = text_of n
last_given (n ∷ m ∷ names) after = last_given (m ∷ names) after

abbrev pub is_behind : ListKind → List ℕ → List (List ℕ) → Bool
is_behind k after name = is_lt (texts_cmp (name_of k after) name)

-- the names of a listing behind such a one
abbrev pub names_behind : NamesView → Listing → List ℕ → Names
names_behind seen l after = filter (is_behind l.kind after) (names_in seen l.kind l.share l.schema)

abbrev pub list_cursor : List ℕ → Listing → List ℕ → ListCursor
list_cursor recipient l after = record { kind = l.kind; recipient = recipient; share = l.share; schema = l.schema; after = after }

abbrev pub next_names : List ℕ → Listing → List ℕ → Names → Option ListCursor
next_names recipient l after names = if nat_lt l.most (length names) then Some (list_cursor recipient l (last_given (take l.most names) after)) else None

abbrev pub names_from : List ℕ → NamesView → Listing → List ℕ → NamesPage
names_from recipient seen l after = record {
  kind = l.kind;
  share = l.share;
  schema = l.schema;
  names = take l.most (names_behind seen l after);
  next = next_names recipient l after (names_behind seen l after);
}

-- the token is of this listing and this recipient
abbrev pub is_same_listing : List ℕ → Listing → ListCursor → Bool
is_same_listing recipient l c = bytes_eq (kind_field c.kind) (kind_field l.kind) && (bytes_eq c.recipient recipient && (bytes_eq c.share l.share && bytes_eq c.schema l.schema))

abbrev pub names_by : List ℕ → NamesView → Listing → Option Cursor → Result NamesPage Refused
names_by recipient seen l (Some (cursor.List c)) = where_all ((is_same_listing recipient l c, TokenInvalid) ∷ []) (Ok (names_from recipient seen l c.after))
names_by recipient seen l _ = Err (plain TokenInvalid)

abbrev pub names_with : ReplyKeys → List ℕ → NamesView → Listing → Option (List ℕ) → Result NamesPage Refused
names_with keys recipient seen l None = Ok (names_from recipient seen l [])
names_with keys recipient seen l (Some token) = names_by recipient seen l (cursor_of keys.token token)

-- the names that a listing is answered, or the refusal: a share that isn't granted is answered like one that isn't there
abbrev pub names_page : ReplyKeys → List ℕ → NamesView → Listing → Result NamesPage Refused
names_page keys recipient seen l = where_all ((is_there seen l.kind l.share l.schema, NotFound) ∷ []) (names_with keys recipient seen l l.token)

-- "Get Share"
abbrev pub share_in : NamesView → List ℕ → Result (List ℕ) Refused
share_in seen share = where_all ((has_share seen share, NotFound) ∷ []) (Ok share)
