use Rattle.std.proofs.Common.{◌≡◌, Some, None, take, sym, ap, ◌∙◌, subst, IfOk}
use Rattle.share_request.specs.Paths.{route_of, segments_in}
use Rattle.share_request.specs.declared.asked.Request.{Request}
use Rattle.share_request.proofs.Fronts.{request_found}
use Rattle.share_request.proofs.request.link_or.Goals as goal

pub returns-in-Some-route_of : goal.returns-in-Some-route_of
returns-in-Some-route_of c =
    let below = c.args.below.now in
    let names = c.deref-in-Some-route_of.ensures.value ∙ c.in_ok-names.ensures in
    let is : Some c.in-Some-route_of.route ≡ route_of (take 8 (segments_in below)) = c.in-Some-route_of.ensures ∙ ap route_of (c.deref.ensures.value ∙ c.in_ok-names.ensures) in
    subst (λ (z : Request). IfOk c.at_route.result (λ r. r ≡ z))
    (request_found c.args.head.now below _ c.args.body.now (Some c.in-Some-route_of.route) (sym c.in_default.ensures) is)
    (rw names at c.at_route.ensures)

pub returns : goal.returns
returns c =
    let below = c.args.below.now in
    let is : None ≡ route_of (take 8 (segments_in below)) = c.in-None.ensures ∙ ap route_of (c.deref.ensures.value ∙ c.in_ok-names.ensures) in
    c.turned_away.ensures ∙ request_found c.args.head.now below _ c.args.body.now None (sym c.in_default.ensures) is
