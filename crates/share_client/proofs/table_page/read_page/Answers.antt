use Rattle.share_client.proofs.Contents.{page_read}
use Rattle.share_client.proofs.table_page.read_page.Goals as goal

pub returns-in_ok-head_of-in-Ok : goal.returns-in_ok-head_of-in-Ok
returns-in_ok-head_of-in-Ok g c =
    page_read g.T.Line.PageLine.form g.T.Content.reads c.args.version c.args.lines.items c.args.found.now.items c.read_parts.new.found.items c.in-Ok.front c.in-Ok.token
    c.in_ok-head_of-in-Ok.field-0 c.in-Ok.ensures c.in_ok-head_of-in-Ok.ensures
