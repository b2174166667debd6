use Rattle.std.proofs.Common.{rules, ◌≡◌, ◌++◌, ℕ, List, Some, IfOk, string_bytes, codes, subst}
use Rattle.share_config.specs.Profiles.{without_slash}
use Rattle.share_client.specs.Bodies.{body_sent}
use Rattle.share_client.specs.Requests.{post_text}
use Rattle.share_client.specs.TableRequests.{table_route}
use Rattle.share_client.proofs.table_request.query_with.Goals as goal

pub returns : goal.returns
returns c =
    let server = c.args.server.now in
    let more = c.args.more.now in
    let path : List ℕ = without_slash server.target.path ++ (table_route c.args.table.now ++ codes "/query") in
    let body : List ℕ = body_sent c.args.body.now c.args.token.now in
    let is_path : c.deref-2.result.now ≡ without_slash server.target.path ++ (table_route c.args.table.now ++ codes "/query") = search rules in
    let is_host : c.as_str.result.now ≡ server.target.host_field = search rules in
    let is_bearer : c.as_str-2.result.now ≡ server.bearer = search rules in
    let is_body : c.deref-3.result.now ≡ body_sent c.args.body.now c.args.token.now = search rules in
    subst (λ p. IfOk c.post_text.result (λ t. string_bytes t ≡ post_text p server.target.host_field (Some server.bearer) more body)) is_path
    (subst (λ h. IfOk c.post_text.result (λ t. string_bytes t ≡ post_text c.deref-2.result.now h (Some server.bearer) more body)) is_host
    (subst (λ b. IfOk c.post_text.result (λ t. string_bytes t ≡ post_text c.deref-2.result.now c.as_str.result.now (Some b) more body)) is_bearer
    (subst (λ b. IfOk c.post_text.result (λ t. string_bytes t ≡ post_text c.deref-2.result.now c.as_str.result.now (Some c.as_str-2.result.now) more b)) is_body
    c.post_text.ensures)))
