-- How the body of a message is framed (RFC 9112, sections 3.2, 6.1 to 6.3 and 9.3).
use Rattle.std.specs.Prelude.{ℕ, Bool, ◌&&◌, ◌||◌, ◌==◌, not, nat_lt, nat_le, List, Option, Some, None, Result, Ok, Err, is_some, codes, count_by, length, if◌then◌else◌}
use Rattle.std.specs.List.{list_all, list_any}
use Rattle.std.specs.Char.{is_ascii_digit}
use Rattle.std.specs.Str.Parse.{digits_value}
use Rattle.http_message.specs.Fields.{is_named, first_named, lists_option, same_text}
use Rattle.http_message.specs.declared.refusal.Flaw.{Flaw}
use Rattle.http_message.specs.declared.refusal.Flaw.TheVariants.{BadMessage, BodyTooLarge, TransferCoding}
use Rattle.http_message.specs.declared.framing.Form.{Form}
use Rattle.http_message.specs.declared.framing.Form.TheVariants as form
use Rattle.http_message.specs.declared.head.Head.{Head}

abbrev pub Pairs : Type 0
Pairs = List (List ℕ × List ℕ)

-- 1 to 18 digits
abbrev pub is_length : List ℕ → Bool
is_length value = nat_le 1 (length value) && nat_le (length value) 18 && list_all is_ascii_digit value

abbrev pub length_in : List ℕ → Option ℕ
length_in value = if is_length value then Some (digits_value 10 value) else None

-- More than one Content-Length, one that is no number, one beside Transfer-Encoding, or Transfer-Encoding in HTTP/1.0.
abbrev pub is_broken : ℕ → ℕ → Bool → ℕ → Bool
is_broken minor lengths is_number codings =
    nat_lt 1 lengths || (lengths == 1 && not is_number) || (nat_lt 0 codings && (lengths == 1 || minor == 0))

abbrev pub sized : ℕ → Option ℕ → Result Form Flaw
sized most None = Ok (form.Length 0)
sized most (Some size) = if nat_lt most size then Err BodyTooLarge else Ok (form.Length size)

-- by the numbers of Content-Length and Transfer-Encoding fields, the value of the first, and whether the second is `chunked`
abbrev pub form_by : ℕ → ℕ → ℕ → Option ℕ → ℕ → Bool → Result Form Flaw
form_by most minor lengths size codings chunked =
    if is_broken minor lengths (is_some size) codings then Err BadMessage
    else if nat_lt 0 codings then (if codings == 1 && chunked then Ok form.Chunked else Err TransferCoding)
    else sized most size

-- the form of a body of at most so many bytes
abbrev pub form_in : ℕ → ℕ → Pairs → Result Form Flaw
form_in most minor fields =
    form_by most minor
    (count_by (is_named (codes "content-length")) fields)
    (length_in (first_named (codes "content-length") fields))
    (count_by (is_named (codes "transfer-encoding")) fields)
    (same_text (first_named (codes "transfer-encoding") fields) (codes "chunked"))

-- a request of HTTP/1.1 has exactly one Host
abbrev pub request_form : ℕ → Head → Result Form Flaw
request_form most head =
    if head.minor == 1 && not (count_by (is_named (codes "host")) head.fields == 1) then Err BadMessage
    else form_in most head.minor head.fields

-- the sender closes the connection behind the message
abbrev pub closes : ℕ → Pairs → Bool
closes minor fields =
    minor == 0 || list_any (λ field. is_named (codes "connection") field && lists_option (codes "close") field.1) fields
