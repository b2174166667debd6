-- The status of a refusal's code.
use Rattle.std.proofs.Common.{◌≡◌, ℕ, refl, ap, ◌∙◌}
use Rattle.case_table.specs.declared.routing.Method.{Method}
use Rattle.response_text.specs.Statuses.{IsBare, code}
use Rattle.response_text.specs.declared.status.Status.{Status}
use Rattle.response_text.specs.declared.status.Status.TheVariants as status
use Rattle.share_serve.specs.Responses.{status_by}

by_code : (allowed : Method) (s : Status) → IsBare allowed s → s ≡ status_by allowed (code s)
by_code allowed (status.Ok v) is = ap status.Ok is
by_code allowed (status.PartialContent range) is = absurd is
by_code allowed status.BadRequest is = refl
by_code allowed status.Unauthorized is = refl
by_code allowed status.Forbidden is = refl
by_code allowed status.NotFound is = refl
by_code allowed (status.MethodNotAllowed m) is = ap status.MethodNotAllowed is
by_code allowed status.Conflict is = refl
by_code allowed status.ContentTooLarge is = refl
by_code allowed (status.RangeNotSatisfiable size) is = ap status.RangeNotSatisfiable is
by_code allowed status.RequestHeaderFieldsTooLarge is = refl
by_code allowed status.InternalServerError is = refl
by_code allowed status.NotImplemented is = refl
by_code allowed status.ServiceUnavailable is = refl

-- a status that tells nothing besides is that of its code
pub status_is : (allowed : Method) (s : Status) (c : ℕ) → code s ≡ c → IsBare allowed s → s ≡ status_by allowed c
status_is allowed s c e is = by_code allowed s is ∙ ap (status_by allowed) e
