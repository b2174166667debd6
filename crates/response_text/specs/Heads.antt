-- The text of a response up to its body (RFC 9112, sections 2.1, 4 and 5).
use Rattle.std.specs.Prelude.{ℕ, nat_le, IsTrue, Bool, ◌==◌, List, [], ◌∷◌, ◌++◌, Option, Some, None, codes, if◌then◌else◌}
use Rattle.std.specs.List.{flat_map, list_all}
use Rattle.std.specs.Fmt.{decimal}
use Rattle.file_ranges.specs.Ranges.{range_text}
use Rattle.response_text.specs.Contents.{content_type_name}
use Rattle.response_text.specs.Dates.{date_at}
use Rattle.response_text.specs.Statuses.{allowed_names, code, reason}
use Rattle.response_text.specs.declared.head.ContentType.{ContentType}
use Rattle.response_text.specs.declared.head.ContentType.TheVariants as content
use Rattle.response_text.specs.declared.head.ResponseHead.{ResponseHead}
use Rattle.response_text.specs.declared.status.Status.{Status}
use Rattle.response_text.specs.declared.status.Status.TheVariants as status

-- what a head says, as plain values: the status, the moment in milliseconds since 1970, the form and the length of the body, and
-- whether the connection is closed behind it
pub record Head : Type 0 where
  pub status : Status
  pub moment : ℕ
  pub content_type : ContentType
  pub length : ℕ
  pub closes : Bool

abbrev pub head_of : ResponseHead → Head
head_of head = record { status = head.status; moment = head.moment; content_type = head.content_type; length = head.length; closes = head.closes }

-- a field is a name and a value
abbrev pub Fields : Type 0
Fields = List (List ℕ × List ℕ)

abbrev pub crlf : List ℕ
crlf = codes "\r\n"

abbrev pub line : List ℕ → List ℕ
line text = text ++ crlf

abbrev pub status_line : Status → List ℕ
status_line s = codes "HTTP/1.1 " ++ (decimal (code s) ++ (codes " " ++ reason s))

abbrev pub field_line : List ℕ × List ℕ → List ℕ
field_line field = field.0 ++ (codes ": " ++ field.1)

abbrev pub fields_text : Fields → List ℕ
fields_text fields = flat_map (λ field. line (field_line field)) fields

-- Delta Sharing PROTOCOL.md, "Query Table Version"
abbrev pub version_fields : Option ℕ → Fields
version_fields None = []
version_fields (Some version) = (codes "Delta-Table-Version", decimal version) ∷ []

-- the size of an object of which none of the bytes that are asked for is there (RFC 9110, section 14.4)
abbrev pub size_fields : Option ℕ → Fields
size_fields None = []
size_fields (Some size) = (codes "Content-Range", codes "bytes */" ++ decimal size) ∷ []

-- what the status calls for: the table's version, the part that is sent (RFC 9110, section 14.4), a challenge (RFC 9110, section
-- 11.6.1; RFC 6750, section 3), the allowed methods (RFC 9110, section 10.2.1)
abbrev pub status_fields : Status → Fields
status_fields (status.Ok version) = version_fields version
status_fields (status.PartialContent range) = (codes "Content-Range", range_text range) ∷ []
status_fields status.Unauthorized = (codes "WWW-Authenticate", codes "Bearer") ∷ []
status_fields (status.MethodNotAllowed method) = (codes "Allow", allowed_names method) ∷ []
status_fields (status.RangeNotSatisfiable size) = size_fields size
status_fields _ = []

-- of the bytes of a file parts may be asked for (RFC 9110, section 14.3)
abbrev pub unit_fields : ContentType → Fields
unit_fields content.Json = []
unit_fields content.JsonLines = []
unit_fields content.DeltaLines = []
unit_fields content.Bytes = (codes "Accept-Ranges", codes "bytes") ∷ []

-- an empty body has no type (RFC 9110, section 8.3)
abbrev pub type_fields : ContentType → ℕ → Fields
type_fields form length =
    if length == 0 then [] else (codes "Content-Type", content_type_name form) ∷ []

-- the format of lines, where it is the one of actions (Delta Sharing PROTOCOL.md, "Delta Sharing Capabilities Header")
abbrev pub format_fields : ContentType → Fields
format_fields content.Json = []
format_fields content.JsonLines = []
format_fields content.DeltaLines = (codes "delta-sharing-capabilities", codes "responseformat=delta") ∷ []
format_fields content.Bytes = []

-- what is told of the body but its length
abbrev pub form_fields : ContentType → ℕ → Fields
form_fields form length = unit_fields form ++ (type_fields form length ++ format_fields form)

-- RFC 9112, section 9.6
abbrev pub close_fields : Bool → Fields
close_fields closes = if closes then (codes "Connection", codes "close") ∷ [] else []

-- all fields, in order; Date and Content-Length are those of RFC 9110, sections 6.6.1 and 8.6
abbrev pub fields : Head → Fields
fields head =
    (codes "Date", date_at head.moment)
    ∷ (status_fields head.status
    ++ (form_fields head.content_type head.length
    ++ ((codes "Content-Length", decimal head.length) ∷ close_fields head.closes)))

-- the status line, a line for each field, and the empty line
abbrev pub head_text : Head → List ℕ
head_text head = line (status_line head.status) ++ (fields_text (fields head) ++ line [])

-- ---- a law

-- no byte below 32, so neither CR nor LF
abbrev pub is_one_line : List ℕ → Bool
is_one_line text = list_all (λ b. nat_le 32 b) text

-- the lines have no other ends than those behind them
abbrev pub LinesEndOnce : Head → Type 0
LinesEndOnce head =
    IsTrue (is_one_line (status_line head.status))
    × IsTrue (list_all (λ field. is_one_line (field_line field)) (fields head))
