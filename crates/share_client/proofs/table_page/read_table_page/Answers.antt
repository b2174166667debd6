use Rattle.share_client.proofs.Contents.{page_of_body}
use Rattle.share_client.specs.TableVersions.{version_in}
use Rattle.share_client.proofs.table_page.read_table_page.Goals as goal

pub returns-in-Ok : goal.returns-in-Ok
returns-in-Ok g c =
    let response = c.args.response.now in
    page_of_body g.T.Line.PageLine.form g.T.Content.reads (version_in response) c.in-Some.version response.body.items c.as_slice.result.now c.in-Ok.lines.items
    c.from.result.items c.args.found.now.items c.read_page.new.found.items c.read_page.result
    c.in-Some.ensures c.as_slice.ensures.value c.in-Ok.ensures c.from.ensures.0 c.read_page.ensures
