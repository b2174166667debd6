-- Responses, and their texts (RFC 9112, section 2.1; Delta Sharing PROTOCOL.md, "REST APIs").
use Rattle.std.specs.Prelude.{ℕ, Bool, true, false, ◌==◌, List, [], ◌++◌, Option, Some, None, length, if◌then◌else◌}
use Rattle.file_ranges.specs.Picks.{pick}
use Rattle.file_ranges.specs.Ranges.{Range, bytes_at}
use Rattle.file_ranges.specs.declared.pick.Picked.{Picked}
use Rattle.file_ranges.specs.declared.pick.Picked.TheVariants as picked
use Rattle.file_ranges.specs.declared.span.Span.{Span}
use Rattle.case_table.specs.Refusals.{refusal_row}
use Rattle.case_table.specs.declared.refuse.Refusal.TheVariants as refusal
use Rattle.case_table.specs.declared.routing.Method.{Method}
use Rattle.case_table.specs.declared.routing.Method.TheVariants as method
use Rattle.response_text.specs.Heads.{head_text}
use Rattle.response_text.specs.declared.head.ContentType.{ContentType}
use Rattle.response_text.specs.declared.head.ContentType.TheVariants as content
use Rattle.response_text.specs.declared.status.Status.{Status}
use Rattle.response_text.specs.declared.status.Status.TheVariants as status
use Rattle.share_lines.specs.Errors.{error_body}
use Rattle.share_reply.specs.Formats.{body_of}
use Rattle.share_reply.specs.Refusing.{Refused, plain}
use Rattle.share_reply.specs.declared.plan.Plan.{Plan}
use Rattle.share_reply.specs.declared.plan.Plan.TheVariants as plan
use Rattle.share_request.specs.declared.asked.ResponseFormat.{ResponseFormat}
use Rattle.share_request.specs.declared.asked.ResponseFormat.TheVariants as format
use Rattle.share_serve.specs.declared.response.Delivery.{Delivery}
use Rattle.share_serve.specs.declared.response.Response.{Response}

-- The status of a code (RFC 9110, section 15), which tells no version and no size; that of a wrong method tells those that are allowed.
abbrev pub status_by : Method → ℕ → Status
status_by allowed code =
    if code == 400 then status.BadRequest
    else (if code == 401 then status.Unauthorized
    else (if code == 403 then status.Forbidden
    else (if code == 404 then status.NotFound
    else (if code == 405 then status.MethodNotAllowed allowed
    else (if code == 409 then status.Conflict
    else (if code == 413 then status.ContentTooLarge
    else (if code == 416 then status.RangeNotSatisfiable None
    else (if code == 431 then status.RequestHeaderFieldsTooLarge
    else (if code == 500 then status.InternalServerError
    else (if code == 501 then status.NotImplemented
    else (if code == 503 then status.ServiceUnavailable
    else status.Ok None)))))))))))

-- a refusal, by the table of refusals
abbrev pub refusal_with : Method → Refused → Response
refusal_with allowed r = record { status = status_by allowed (refusal_row r.refusal).status; form = content.Json; body = error_body r.refusal r.detail }

abbrev pub refusal_response : Refused → Response
refusal_response r = refusal_with method.Get r

abbrev pub only_response : Method → Response
only_response allowed = refusal_with allowed (plain refusal.MethodNotAllowed)

abbrev pub json_response : List ℕ → Response
json_response text = record { status = status.Ok None; form = content.Json; body = text }

abbrev pub version_response : ℕ → Response
version_response v = record { status = status.Ok (Some v); form = content.Json; body = [] }

-- lines in a format, of which the head tells the one of actions
abbrev pub lines_form : ResponseFormat → ContentType
lines_form format.Parquet = content.JsonLines
lines_form format.Delta = content.DeltaLines

-- the lines of a version of a table
abbrev pub lines_response : ResponseFormat → ℕ → List ℕ → Response
lines_response f v text = record { status = status.Ok (Some v); form = lines_form f; body = text }

-- bytes of an object
abbrev pub bytes_response : Status → List ℕ → Response
bytes_response s bytes = record { status = s; form = content.Bytes; body = bytes }

-- all of them
abbrev pub file_response : List ℕ → Response
file_response bytes = bytes_response (status.Ok None) bytes

-- a part of them (RFC 9110, section 15.3.7)
abbrev pub part_response : Range → List ℕ → Response
part_response range bytes = bytes_response (status.PartialContent range) (bytes_at range bytes)

-- there is none of those that are asked for: how many there are is told (RFC 9110, section 15.5.17)
abbrev pub out_response : ℕ → Response
out_response size = record { status = status.RangeNotSatisfiable (Some size); form = content.Json; body = error_body refusal.RangeNotSatisfiable [] }

abbrev pub picked_response : Picked → List ℕ → Response
picked_response picked.Whole bytes = file_response bytes
picked_response (picked.Part range) bytes = part_response range bytes
picked_response picked.Out bytes = out_response (length bytes)

-- of an object of these bytes, by which of them are asked for
abbrev pub object_response : Option Span → List ℕ → Response
object_response span bytes = picked_response (pick span (length bytes)) bytes

-- The response that a recipient's reply is; that of an object waits for its bytes.
abbrev pub response_of : Plan → Option Response
response_of (plan.Refused r) = Some (refusal_response r)
response_of (plan.Only allowed) = Some (only_response allowed)
response_of (plan.Json text) = Some (json_response text)
response_of (plan.Version v) = Some (version_response v)
response_of (plan.Lines v f texts) = Some (lines_response f v (body_of texts))
response_of (plan.File name span) = None

-- ---- texts

-- up to the body, of which the length is told
abbrev pub response_head : Delivery → Status → ContentType → ℕ → List ℕ
response_head d s form size = head_text (record { status = s; moment = d.moment; content_type = form; length = size; closes = d.closes })

-- a response to HEAD has no body (RFC 9110, section 9.3.2)
abbrev pub body_sent : Bool → List ℕ → List ℕ
body_sent true body = []
body_sent false body = body

unfoldable pub response_text : Delivery → Response → List ℕ
response_text d r = response_head d r.status r.form (length r.body) ++ body_sent d.to_head r.body
