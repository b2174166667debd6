-- The statuses that are answered (RFC 9110, section 15; RFC 6585, section 5).
use Rattle.std.specs.Prelude.{◌≡◌, ℕ, List, None, ⊤, codes}
use Rattle.case_table.specs.declared.routing.Method.{Method}
use Rattle.case_table.specs.declared.routing.Method.TheVariants as method
use Rattle.response_text.specs.declared.status.Status.{Status}
use Rattle.response_text.specs.declared.status.Status.TheVariants as status

-- the value of Allow (RFC 9110, section 10.2.1)
abbrev pub allowed_names : Method → List ℕ
allowed_names method.Get = codes "GET"
allowed_names method.Post = codes "POST"
allowed_names method.GetOrHead = codes "GET, HEAD"

abbrev pub code : Status → ℕ
code (status.Ok version) = 200
code (status.PartialContent range) = 206
code status.BadRequest = 400
code status.Unauthorized = 401
code status.Forbidden = 403
code status.NotFound = 404
code (status.MethodNotAllowed allowed) = 405
code status.Conflict = 409
code status.ContentTooLarge = 413
code (status.RangeNotSatisfiable size) = 416
code status.RequestHeaderFieldsTooLarge = 431
code status.InternalServerError = 500
code status.NotImplemented = 501
code status.ServiceUnavailable = 503

abbrev pub reason : Status → List ℕ
reason (status.Ok version) = codes "OK"
reason (status.PartialContent range) = codes "Partial Content"
reason status.BadRequest = codes "Bad Request"
reason status.Unauthorized = codes "Unauthorized"
reason status.Forbidden = codes "Forbidden"
reason status.NotFound = codes "Not Found"
reason (status.MethodNotAllowed allowed) = codes "Method Not Allowed"
reason status.Conflict = codes "Conflict"
reason status.ContentTooLarge = codes "Content Too Large"
reason (status.RangeNotSatisfiable size) = codes "Range Not Satisfiable"
reason status.RequestHeaderFieldsTooLarge = codes "Request Header Fields Too Large"
reason status.InternalServerError = codes "Internal Server Error"
reason status.NotImplemented = codes "Not Implemented"
reason status.ServiceUnavailable = codes "Service Unavailable"

-- the status tells no version, no part, no size, and no methods but those
abbrev pub IsBare : Method → Status → Type 0
IsBare allowed (status.Ok version) = version ≡ None
IsBare allowed (status.PartialContent range) = ⊥
IsBare allowed (status.RangeNotSatisfiable size) = size ≡ None
IsBare allowed (status.MethodNotAllowed method) = method ≡ allowed
IsBare allowed _ = ⊤
