-- The text of a signed request up to its body (RFC 9112, sections 2.1, 3, 5 and 9.6).
use Rattle.std.specs.Prelude.{ℕ, List, [], ◌∷◌, ◌++◌, codes, length}
use Rattle.std.specs.List.{flat_map}
use Rattle.std.specs.Fmt.{decimal}
use Rattle.signed_call.specs.declared.call.Call.{Call}
use Rattle.signed_call.specs.declared.call.Call.TheVariants as call
use Rattle.signed_call.specs.declared.canonical.Asked.{Asked}
use Rattle.signed_call.specs.declared.field.Field.{Field}
use Rattle.signed_call.specs.declared.key.CallKey.{CallKey}
use Rattle.signed_call.specs.declared.key.CallPlace.{CallPlace}
use Rattle.signed_call.specs.declared.stamp.Stamp.{Stamp}
use Rattle.signed_call.specs.Calls.{asked_of}
use Rattle.signed_call.specs.Methods.{method_name}
use Rattle.signed_call.specs.Signing.{authorization, canonical_query}

abbrev pub field_line : List ℕ → List ℕ → List ℕ
field_line name value = name ++ (codes ": " ++ (value ++ codes "\r\n"))

abbrev pub line_of : Field → List ℕ
line_of f = field_line f.name f.value

abbrev pub field_lines : List Field → List ℕ
field_lines fields = flat_map line_of fields

-- a query that is empty has no `?`
unfoldable pub query_text : List Field → List ℕ
query_text [] = []
query_text (p ∷ ps) = codes "?" ++ canonical_query (p ∷ ps)

unfoldable pub first_line : Asked → List ℕ
first_line asked = method_name asked.method ++ (codes " " ++ (asked.path ++ (query_text asked.query ++ codes " HTTP/1.1\r\n")))

-- the length of the body, where the request has one
unfoldable pub length_line : Call → List ℕ
length_line (call.PutAbsent name mark bytes) = field_line (codes "content-length") (decimal (length bytes.now))
length_line _ = []

-- the fields that are signed, the signature, and that the connection is closed behind the response
unfoldable pub head_text : CallKey → CallPlace → Stamp → Call → List ℕ
head_text key place stamp asked =
    let signed = asked_of key place stamp asked in
    first_line signed
    ++ field_lines signed.fields
    ++ field_line (codes "authorization") (authorization key place.region stamp signed)
    ++ length_line asked
    ++ codes "connection: close\r\n\r\n"
