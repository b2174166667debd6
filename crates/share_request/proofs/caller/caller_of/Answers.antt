use Rattle.std.proofs.Common.{◌≡◌, ℕ, List, [], Option, Some, IfOk, ap, ◌∙◌, subst}
use Rattle.share_request.specs.Callers.{caller_of}
use Rattle.share_request.specs.Requests.{below_in}
use Rattle.share_request.specs.Targets.{below_endpoint, split_query}
use Rattle.share_request.proofs.caller.caller_of.Goals as goal

pub returns-in-Some : goal.returns-in-Some
returns-in-Some c =
    let query = (split_query c.args.head.now.target).1 in
    let path = c.split_query.ensures.path ∙ ap (λ t. (split_query t).0) c.as_str.ensures in
    let is : Some c.in-Some.below.now ≡ below_endpoint (split_query c.args.head.now.target).0 = c.in-Some.ensures ∙ ap below_endpoint path in
    subst (λ (o : Option (List ℕ)). IfOk c.caller_below.result (λ x. x ≡ caller_of (below_in c.args.head.now o query []))) is (c.caller_below.ensures query)
