-- The texts of listings.
use Rattle.std.specs.Prelude.{ℕ, List, [], ◌∷◌, Option, Some, None, Result, Ok, Err, codes, option_map, if◌then◌else◌}
use Rattle.json_print.specs.Fields.{Field, object_of}
use Rattle.page_token.specs.Token.{token_text}
use Rattle.page_token.specs.declared.cursor.Cursor.TheVariants as cursor
use Rattle.page_token.specs.declared.cursor.ListKind.{ListKind}
use Rattle.serde_json.specs.Data.{Data, array, string}
use Rattle.serde_json.specs.Written.{compact_text}
use Rattle.share_reply.specs.Answer.{NamesPage}
use Rattle.share_reply.specs.Bodies.{name_items, names_data, share_data}
use Rattle.share_reply.specs.Lists.{Listing, Names, last_given, list_cursor}
use Rattle.share_reply.specs.Refusing.{Refused}
use Rattle.share_reply.specs.Walks.{texts}
use Rattle.share_reply.specs.declared.keys.ReplyKeys.{ReplyKeys}
use Rattle.share_reply.specs.declared.walk.Gathered.{Gathered}

-- the names of a page, and the next token
abbrev pub page_fields : ListKind → List ℕ → List ℕ → Names → Option (List ℕ) → List Field
page_fields k share schema names token =
    (codes "items", Some (array (name_items k share schema names))) ∷ (codes "nextPageToken", option_map string token) ∷ []

abbrev pub page_data : ListKind → List ℕ → List ℕ → Names → Option (List ℕ) → Data
page_data k share schema names token = object_of (page_fields k share schema names token)

-- the token of the names behind a page
abbrev pub token_behind : ReplyKeys → List ℕ → Listing → List ℕ → Gathered → Option (List ℕ)
token_behind keys recipient l after page =
    if page.is_left then Some (token_text keys.token (cursor.List (list_cursor recipient l (last_given (texts page.names.items) after)))) else None

-- the text of a page, or the refusal
abbrev pub as_names : ReplyKeys → Result NamesPage Refused → Result (List ℕ) Refused
as_names keys (Ok page) = Ok (compact_text (names_data keys page))
as_names keys (Err r) = Err r

-- the text of a share, or the refusal
abbrev pub as_share : Result (List ℕ) Refused → Result (List ℕ) Refused
as_share (Ok share) = Ok (compact_text (share_data share))
as_share (Err r) = Err r

abbrev pub schema_fields : List ℕ → List ℕ → List Field
schema_fields schema share = (codes "name", Some (string schema)) ∷ (codes "share", Some (string share)) ∷ []

abbrev pub table_fields : List ℕ → List ℕ → List ℕ → List Field
table_fields table schema share = (codes "name", Some (string table)) ∷ (codes "schema", Some (string schema)) ∷ (codes "share", Some (string share)) ∷ []
