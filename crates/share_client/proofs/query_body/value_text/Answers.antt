use Rattle.std.proofs.Common.{◌≡◌, true, subst}
use Rattle.serde_json.specs.View.{view}
use Rattle.share_client.specs.Bodies.{is_query}
use Rattle.share_client.proofs.Floats.{members_plain}
use Rattle.share_client.proofs.query_body.value_text.Goals as goal

pub put_token-requires : goal.put_token-requires
put_token-requires c = members_plain c.in-Object.members (subst (λ v. is_query (view v) ≡ true) c.in-Object.is c.requires)
