-- The request that a head and a body ask: turned away, by token, or by link (Delta Sharing PROTOCOL.md, "REST APIs").
use Rattle.std.specs.Prelude.{ℕ, Bool, ◌||◌, List, [], Option, Some, None, bytes_eq, if◌then◌else◌, codes}
use Rattle.case_table.specs.Routes.{route_row}
use Rattle.case_table.specs.declared.routing.Method.{Method}
use Rattle.case_table.specs.declared.routing.Method.TheVariants as method
use Rattle.case_table.specs.declared.routing.Route.{Route}
use Rattle.case_table.specs.declared.routing.Route.TheVariants as route
use Rattle.file_ranges.specs.Spans.{span_of}
use Rattle.http_message.specs.declared.head.Head.{Head}
use Rattle.signed_link.specs.Reading.{after}
use Rattle.share_request.specs.Asked.{what_at}
use Rattle.share_request.specs.Bearers.{bearer_in}
use Rattle.share_request.specs.Capabilities.{format_in}
use Rattle.share_request.specs.Parameters.{pairs_in}
use Rattle.share_request.specs.Paths.{route_of, segments_in}
use Rattle.share_request.specs.Targets.{below_endpoint, link_target, split_query}
use Rattle.share_request.specs.declared.asked.Request.{Request}
use Rattle.share_request.specs.declared.asked.Request.TheVariants as request
use Rattle.share_request.specs.declared.asked.ResponseFormat.{ResponseFormat}
use Rattle.share_request.specs.declared.fault.TurnedAway.{TurnedAway}
use Rattle.share_request.specs.declared.fault.TurnedAway.TheVariants as early
use Rattle.share_request.specs.declared.parameter.QueryPair.{QueryPair}

-- methods are compared byte by byte (RFC 9110, section 9.1)
abbrev pub has_method : Method → List ℕ → Bool
has_method method.Get text = bytes_eq text (codes "GET")
has_method method.Post text = bytes_eq text (codes "POST")
has_method method.GetOrHead text = bytes_eq text (codes "GET") || bytes_eq text (codes "HEAD")

abbrev pub is_head : Head → Bool
is_head head = bytes_eq head.method (codes "HEAD")

abbrev pub turned_away : TurnedAway → Request
turned_away why = request.TurnedAway why

abbrev pub pairs_or_none : Option (List ℕ) → List QueryPair
pairs_or_none None = []
pairs_or_none (Some query) = pairs_in query

abbrev pub by_token : List ℕ → Route → ResponseFormat → List (List ℕ) → Option (List ℕ) → List ℕ → Request
by_token digest route format segments query body =
    request.ByToken (record { digest = digest; route = route; format = format; asked = what_at route segments (pairs_or_none query) body })

abbrev pub with_bearer : Option (List ℕ) → Route → ResponseFormat → List (List ℕ) → Option (List ℕ) → List ℕ → Request
with_bearer None route format segments query body = turned_away early.NoBearer
with_bearer (Some digest) route format segments query body = by_token digest route format segments query body

abbrev pub at_route : Head → Route → List (List ℕ) → Option (List ℕ) → List ℕ → Request
at_route head route segments query body =
    if has_method (route_row route).method head.method
    then with_bearer (bearer_in head.fields) route (format_in head.fields) segments query body
    else turned_away (early.WrongMethod (route_row route).method)

abbrev pub by_route : Head → Option Route → List (List ℕ) → Option (List ℕ) → List ℕ → Request
by_route head None segments query body = turned_away early.NoRoute
by_route head (Some route) segments query body = at_route head route segments query body

-- by the segments of the path below the endpoint
abbrev pub at_path : Head → List ℕ → Option (List ℕ) → List ℕ → Request
at_path head below query body = by_route head (route_of (segments_in below)) (segments_in below) query body

-- for the file of a link, or a part of it, or for the head alone of what a GET is answered (RFC 9110, sections 9.3.2 and 14.2)
abbrev pub link_request : Head → List ℕ → Request
link_request head target = request.ByLink (record { target = target; head = is_head head; span = span_of head })

-- by what stands below `files/`
abbrev pub by_link : Head → List ℕ → Option (List ℕ) → Request
by_link head below query =
    if has_method (route_row route.File).method head.method
    then link_request head (link_target below query)
    else turned_away (early.WrongMethod (route_row route.File).method)

abbrev pub link_or : Head → Option (List ℕ) → Option (List ℕ) → Request → Request
link_or head None query other = other
link_or head (Some file) query other = by_link head file query

abbrev pub below_in : Head → Option (List ℕ) → Option (List ℕ) → List ℕ → Request
below_in head None query body = turned_away early.NoRoute
below_in head (Some below) query body = link_or head (after (codes "files/") below) query (at_path head below query body)

-- the request of a head and a body
abbrev pub request_in : Head → List ℕ → Request
request_in head body = below_in head (below_endpoint (split_query head.target).0) (split_query head.target).1 body
