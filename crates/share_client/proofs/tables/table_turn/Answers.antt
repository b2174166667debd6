use Rattle.std.proofs.Common.{◌∙◌, Ok, Err}
use Rattle.share_client.specs.Asking.{Asks}
use Rattle.share_client.specs.TableRequests.{request_text}
use Rattle.share_client.specs.TableSteps.{TableTurn}
use Rattle.share_client.specs.Tables.{table_paging}
use Rattle.share_client.proofs.Knowing.{known_as}
use Rattle.share_client.proofs.Tabled.{page_came, page_failed}
use Rattle.share_client.proofs.tables.table_turn.Goals as goal

pub returns-in-Ok-ask-clause-told : goal.returns-in-Ok-ask-clause-told
returns-in-Ok-ask-clause-told g c =
    let server = c.args.server.now in
    let asked = request_text server c.args.request.now in
    let token = c.args.token.now in
    let text = c.as_str.result.now in
    let was = c.args.found.now.items in
    let now = c.read_table_page.new.found.items in
    let spelt = c.as_str.ensures.value ∙ c.in-Ok.ensures in
    known_as g.L.Link.coming g.L.Link.closed c.args.link.now c.ask.new.link
    (Asks server.target text (Ok c.in-Ok-ask.response))
    (TableTurn (table_paging g.T.Line.PageLine.form g.T.Content.reads server asked) token was now c.read_table_page.result)
    (λ s t came. page_came g.T.Line.PageLine.form g.T.Content.reads server asked token text c.in-Ok-ask.response was now c.read_table_page.result s t spelt c.read_table_page.ensures came)
    c.in-Ok-ask.ensures.told

pub returns-clause-told : goal.returns-clause-told
returns-clause-told g c =
    let server = c.args.server.now in
    let asked = request_text server c.args.request.now in
    let token = c.args.token.now in
    let text = c.as_str.result.now in
    let was = c.args.found.now.items in
    let spelt = c.as_str.ensures.value ∙ c.in-Ok.ensures in
    known_as g.L.Link.coming g.L.Link.closed c.args.link.now c.ask.new.link
    (Asks server.target text (Err c.in-Err-ask.fault))
    (TableTurn (table_paging g.T.Line.PageLine.form g.T.Content.reads server asked) token was was (Err c.in-Err-ask.fault))
    (λ s t asks. page_failed g.T.Line.PageLine.form g.T.Content.reads server asked token text c.in-Err-ask.fault was was s t spelt asks)
    c.in-Err-ask.ensures.told
