use Rattle.std.proofs.Common.{◌∙◌, Ok, Err}
use Rattle.share_client.specs.Asking.{Asks}
use Rattle.share_client.specs.Listings.{list_paging}
use Rattle.share_client.specs.Steps.{ListTurn}
use Rattle.share_client.proofs.Knowing.{known_as}
use Rattle.share_client.proofs.Listed.{list_came, list_failed}
use Rattle.share_client.proofs.lists.list_turn.Goals as goal

pub returns-in-Ok-ask-clause-told : goal.returns-in-Ok-ask-clause-told
returns-in-Ok-ask-clause-told g c =
    let server = c.args.server.now in
    let route = c.args.route.now in
    let token = c.args.token.now in
    let text = c.as_str.result.now in
    let spelt = c.as_str.ensures.value ∙ c.in-Ok.ensures in
    let reads = rw c.as_slice.ensures.value at c.read_list.ensures in
    known_as g.L.Link.coming g.L.Link.closed c.args.link.now c.ask.new.link
    (Asks server.target text (Ok c.in-Ok-ask.response))
    (ListTurn (list_paging g.T.Listed.reads server route) token c.args.found.now.items c.read_list.new.found.items c.read_list.result)
    (λ s t came. list_came g.T.Listed.reads server route token text c.in-Ok-ask.response c.args.found.now.items c.read_list.new.found.items c.read_list.result s t spelt reads came)
    c.in-Ok-ask.ensures.told

pub returns-clause-told : goal.returns-clause-told
returns-clause-told g c =
    let server = c.args.server.now in
    let route = c.args.route.now in
    let token = c.args.token.now in
    let text = c.as_str.result.now in
    let was = c.args.found.now.items in
    let spelt = c.as_str.ensures.value ∙ c.in-Ok.ensures in
    known_as g.L.Link.coming g.L.Link.closed c.args.link.now c.ask.new.link
    (Asks server.target text (Err c.in-Err-ask.fault))
    (ListTurn (list_paging g.T.Listed.reads server route) token was was (Err c.in-Err-ask.fault))
    (λ s t asks. list_failed g.T.Listed.reads server route token text c.in-Err-ask.fault was was s t spelt asks)
    c.in-Err-ask.ensures.told
