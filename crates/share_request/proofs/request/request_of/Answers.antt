use Rattle.std.proofs.Common.{ap, ◌∙◌}
use Rattle.share_request.specs.Targets.{split_query}
use Rattle.share_request.proofs.request.request_of.Goals as goal

pub returns : goal.returns
returns c =
    let path = c.split_query.ensures.path ∙ ap (λ t. (split_query t).0) c.as_str.ensures in
    let query = c.split_query.ensures.query ∙ ap (λ t. (split_query t).1) c.as_str.ensures in
    rw (path, query) at c.below_in.ensures
