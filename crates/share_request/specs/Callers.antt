-- Who asks, and by which route: what the head of a request tells of it before its body is read.
use Rattle.std.specs.Prelude.{◌≡◌, ℕ, List, [], Option, Some, None}
use Rattle.http_message.specs.declared.head.Head.{Head}
use Rattle.share_request.specs.Requests.{request_in}
use Rattle.share_request.specs.declared.asked.Caller.{Caller}
use Rattle.share_request.specs.declared.asked.Request.{Request}
use Rattle.share_request.specs.declared.asked.Request.TheVariants as request

-- the token's digest and the route of a request by token; other requests are answered whoever asks
abbrev pub caller_of : Request → Option Caller
caller_of (request.TurnedAway why) = None
caller_of (request.ByToken r) = Some (record { digest = r.digest; route = r.route })
caller_of (request.ByLink by) = None

-- those of the request that a head makes without a body
abbrev pub caller_in : Head → Option Caller
caller_in head = caller_of (request_in head [])

-- who asks is the same whatever the body says
abbrev pub HeadsTellCallers : Type 0
HeadsTellCallers = (head : Head) (body : List ℕ) → caller_of (request_in head body) ≡ caller_in head
