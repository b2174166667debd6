use Rattle.share_client.proofs.Floats.{printed_with}
use Rattle.share_client.proofs.query_body.put_token.Goals as goal

pub returns : goal.returns
returns c =
    printed_with c.to_string.result c.insert.new.self c.args.members.entries c.in_ok-name.name c.in_ok-from_str.field-0 c.args.token.now
    c.in_ok-insert.ensures.entries c.in_ok-name.ensures.ok c.in_ok-from_str.ensures.ok c.requires c.to_string.ensures.text
