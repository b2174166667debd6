-- The text of a signed link: an absolute path with a query (RFC 3986, section 3), below an endpoint.
use Rattle.std.specs.Prelude.{◌≡◌, ℕ, ◌^◌, ◌-◌, ◌<◌, ◌==◌, List, ◌∷◌, ◌++◌, Option, Some, None, length, take, drop, nat_lt, if◌then◌else◌, IsTrue, codes}
use Rattle.std.specs.Str.{IsUtf8}
use Rattle.std.specs.Fmt.{decimal}
use Rattle.hex.specs.Hex.{encode_lower}
use Rattle.hmac_core.specs.Hmac.{are_tag_digits, hmac}
use Rattle.share_catalog.specs.Grammar.{is_catalog_name}
use Rattle.share_catalog.specs.declared.table_name.TableName.{TableName}
use Rattle.signed_link.specs.declared.parts.LinkParts.{LinkParts}
use Rattle.text_forms.specs.Escape.{escaped}

-- the table's name and the file's path, one below the other
abbrev pub file_path : LinkParts → List ℕ
file_path parts =
    codes "/files"
    ++ codes "/" ++ parts.table.share
    ++ codes "/" ++ parts.table.schema
    ++ codes "/" ++ parts.table.table
    ++ codes "/" ++ escaped parts.path

-- the two editions, the expiry and the recipient
abbrev pub query : LinkParts → List ℕ
query parts =
    codes "?b=" ++ decimal parts.binding
    ++ codes "&e=" ++ decimal parts.expires
    ++ codes "&g=" ++ decimal parts.grant
    ++ codes "&r=" ++ parts.recipient

-- what the tag signs
abbrev pub unsigned : LinkParts → List ℕ
unsigned parts = file_path parts ++ query parts

-- the tag in lower-case hexadecimal digits (RFC 4648, section 8), as the last parameter
abbrev pub tag_text : List ℕ → List ℕ → List ℕ
tag_text key text = codes "&t=" ++ encode_lower (hmac key text)

-- the link, but for the endpoint
abbrev pub signed : List ℕ → LinkParts → List ℕ
signed key parts = unsigned parts ++ tag_text key (unsigned parts)

abbrev pub link_text : List ℕ → List ℕ → LinkParts → List ℕ
link_text key endpoint parts = endpoint ++ signed key parts

-- the endpoint as a request's target begins with it (RFC 9112, section 3.2.1)
abbrev pub endpoint_path : List ℕ
endpoint_path = codes "/delta-sharing"

-- the editions and the expiry are below 2^63
pub record IsInRange (parts : LinkParts) : Type 0 where
  pub binding : parts.binding < 2 ^ 63
  pub expires : parts.expires < 2 ^ 63
  pub grant : parts.grant < 2 ^ 63

-- the names of the share, the schema and the table are names
pub record IsTableName (name : TableName) : Type 0 where
  pub share : IsTrue (is_catalog_name name.share)
  pub schema : IsTrue (is_catalog_name name.schema)
  pub table : IsTrue (is_catalog_name name.table)

-- What parts satisfy by their type: the names are names, and the path is UTF-8.
pub record IsValue (parts : LinkParts) : Type 0 where
  pub table : IsTableName parts.table
  pub recipient : IsTrue (is_catalog_name parts.recipient)
  pub path : IsUtf8 parts.path

-- the text is the link with these parts, below the endpoint and under the key
pub record IsLink (key endpoint text : List ℕ) (parts : LinkParts) : Type 0 where
  pub value : IsValue parts
  pub in_range : IsInRange parts
  pub spelt : text ≡ link_text key endpoint parts

-- a target cut before its last parameter, and that parameter's digits, where it is `&t=` and has the form of a tag
abbrev pub tail_parts : List ℕ → List ℕ → Option (List ℕ × List ℕ)
tail_parts front (a ∷ b ∷ c ∷ digits) =
    if a == 38 then (if b == 116 then (if c == 61 then (if are_tag_digits digits then Some (front, digits) else None) else None) else None) else None
tail_parts front _ = None

abbrev pub cut_tail : List ℕ → Option (List ℕ × List ℕ)
cut_tail target = if nat_lt (length target) 67 then None else tail_parts (take (length target - 67) target) (drop (length target - 67) target)
