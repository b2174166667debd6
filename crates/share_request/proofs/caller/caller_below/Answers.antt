use Rattle.std.proofs.Common.{◌≡◌, [], Some, take, sym, ap, ◌∙◌}
use Rattle.share_request.specs.Callers.{caller_of}
use Rattle.share_request.specs.Paths.{route_of, segments_in}
use Rattle.share_request.proofs.Fronts.{request_found}
use Rattle.share_request.proofs.caller.caller_below.Goals as goal

pub returns-in-Some-route_of : goal.returns-in-Some-route_of
returns-in-Some-route_of c = λ query.
    let below = c.args.below.now in
    let is : Some c.in-Some-route_of.route ≡ route_of (take 8 (segments_in below)) = c.in-Some-route_of.ensures ∙ ap route_of (c.deref.ensures.value ∙ c.in_ok-names.ensures) in
    c.caller_at.ensures (take 8 (segments_in below)) query
    ∙ ap caller_of (request_found c.args.head.now below query [] (Some c.in-Some-route_of.route) (sym c.in_default.ensures) is)
