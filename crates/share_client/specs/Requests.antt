-- The requests that a client sends (RFC 9112, sections 3 and 5; RFC 6750, section 2.1; RFC 9110, sections 9.3.2 and 14.2).
use Rattle.std.specs.Prelude.{ℕ, List, [], ◌∷◌, ◌++◌, Option, Some, None, length, codes, decimal}
use Rattle.file_ranges.specs.Ranges.{Range}

-- a line and its end, CR LF
abbrev pub line : List ℕ → List ℕ
line text = text ++ 13 ∷ 10 ∷ []

abbrev pub field_line : List ℕ → List ℕ → List ℕ
field_line name value = line (name ++ codes ": " ++ value)

abbrev pub first_line : List ℕ → List ℕ → List ℕ
first_line method target = line (method ++ codes " " ++ target ++ codes " HTTP/1.1")

-- the token of who asks; a link says by itself what may be read
abbrev pub bearer_line : Option (List ℕ) → List ℕ
bearer_line None = []
bearer_line (Some token) = field_line (codes "Authorization") (codes "Bearer " ++ token)

-- the fields that each request begins with
abbrev pub front : (method target host : List ℕ) → Option (List ℕ) → List ℕ
front method target host bearer = first_line method target ++ field_line (codes "Host") host ++ bearer_line bearer

-- the last field, and the empty line
abbrev pub close_lines : List ℕ
close_lines = field_line (codes "Connection") (codes "close") ++ line []

-- a request without a body
abbrev pub get_text : (target host : List ℕ) → Option (List ℕ) → List ℕ
get_text target host bearer = front (codes "GET") target host bearer ++ close_lines

-- a request for the head alone
abbrev pub head_text : (target host : List ℕ) → List ℕ
head_text target host = front (codes "HEAD") target host None ++ close_lines

-- the bytes that are asked for, from a first to a last
abbrev pub range_value : Range → List ℕ
range_value range = codes "bytes=" ++ (decimal range.first ++ (codes "-" ++ decimal range.last))

abbrev pub range_line : Range → List ℕ
range_line range = field_line (codes "Range") (range_value range)

-- a request for a part
abbrev pub part_text : (target host : List ℕ) → Range → List ℕ
part_text target host range = front (codes "GET") target host None ++ range_line range ++ close_lines

-- the fields that say what a body of JSON is, and how long
abbrev pub content_lines : List ℕ → List ℕ
content_lines body = field_line (codes "Content-Type") (codes "application/json") ++ field_line (codes "Content-Length") (decimal (length body))

-- the field that asks for the delta format (Delta Sharing PROTOCOL.md, "Delta Sharing Capabilities Header")
abbrev pub capability_line : List ℕ
capability_line = field_line (codes "delta-sharing-capabilities") (codes "responseformat=delta")

-- a request with a body of JSON, and with more lines of fields
abbrev pub post_text : (target host : List ℕ) → Option (List ℕ) → (more body : List ℕ) → List ℕ
post_text target host bearer more body = front (codes "POST") target host bearer ++ content_lines body ++ more ++ close_lines ++ body
