use Rattle.std.proofs.Common.{◌≡◌, IfOk, string_bytes, subst, sym}
use Rattle.share_client.specs.TableRequests.{request_text}
use Rattle.share_client.proofs.table_request.TableRequest.text.Goals as goal

pub returns-in-Query : goal.returns-in-Query
returns-in-Query c =
    subst (λ r. IfOk c.query_with.result (λ t. string_bytes t ≡ request_text c.args.server.now r c.args.token.now)) (sym c.in-Query.is) c.query_with.ensures

pub returns-in-Delta : goal.returns-in-Delta
returns-in-Delta c =
    subst (λ r. IfOk c.query_with-in-Delta.result (λ t. string_bytes t ≡ request_text c.args.server.now r c.args.token.now)) (sym c.in-Delta.is)
    (rw c.capability_line.ensures at c.query_with-in-Delta.ensures)
