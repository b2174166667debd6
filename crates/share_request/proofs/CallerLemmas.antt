-- What a head tells of who asks.
use Rattle.std.proofs.Common.{◌≡◌, ℕ, List, [], Bool, true, false, cond, Option, Some, None, refl}
use Rattle.std.specs.Prelude.{codes}
use Rattle.case_table.specs.Routes.{route_row}
use Rattle.case_table.specs.declared.routing.Route.{Route}
use Rattle.http_message.specs.declared.head.Head.{Head}
use Rattle.signed_link.specs.Reading.{after}
use Rattle.share_request.specs.Bearers.{bearer_in}
use Rattle.share_request.specs.Capabilities.{format_in}
use Rattle.share_request.specs.Callers.{HeadsTellCallers, caller_of}
use Rattle.share_request.specs.Paths.{route_of, segments_in}
use Rattle.share_request.specs.Requests.{at_path, below_in, by_route, has_method, link_or, with_bearer}
use Rattle.share_request.specs.Targets.{below_endpoint, split_query}
use Rattle.share_request.specs.declared.asked.Request.{Request}
use Rattle.share_request.specs.declared.asked.ResponseFormat.{ResponseFormat}

-- of either of two requests
either : (test : Bool) (a b c d : Request) → caller_of a ≡ caller_of c → caller_of b ≡ caller_of d → caller_of (cond test a b) ≡ caller_of (cond test c d)
either true a b c d p q = p
either false a b c d p q = q

bearer_same : (digest : Option (List ℕ)) (r : Route) (format : ResponseFormat) (names : List (List ℕ)) (query : Option (List ℕ)) (body other : List ℕ)
    → caller_of (with_bearer digest r format names query body) ≡ caller_of (with_bearer digest r format names query other)
bearer_same None r format names query body other = refl
bearer_same (Some digest) r format names query body other = refl

route_same : (head : Head) (o : Option Route) (names : List (List ℕ)) (query : Option (List ℕ)) (body other : List ℕ)
    → caller_of (by_route head o names query body) ≡ caller_of (by_route head o names query other)
route_same head None names query body other = refl
route_same head (Some r) names query body other =
    either (has_method (route_row r).method head.method) _ _ _ _ (bearer_same (bearer_in head.fields) r (format_in head.fields) names query body other) refl

link_same : (head : Head) (file query : Option (List ℕ)) (a b : Request) → caller_of a ≡ caller_of b → caller_of (link_or head file query a) ≡ caller_of (link_or head file query b)
link_same head None query a b same = same
link_same head (Some file) query a b same = refl

below_same : (head : Head) (below query : Option (List ℕ)) (body other : List ℕ) → caller_of (below_in head below query body) ≡ caller_of (below_in head below query other)
below_same head None query body other = refl
below_same head (Some below) query body other =
    link_same head (after (codes "files/") below) query (at_path head below query body) (at_path head below query other)
    (route_same head (route_of (segments_in below)) (segments_in below) query body other)

-- a body tells nothing of it
pub heads_tell : HeadsTellCallers
heads_tell head body = below_same head (below_endpoint (split_query head.target).0) (split_query head.target).1 body []
