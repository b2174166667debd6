use Rattle.std.proofs.Common.{◌≡◌, ◌∷◌, rules, subst}
use Rattle.share_client.proofs.Contents.{OntoContent, content_begun, content_more}
use Rattle.share_client.proofs.table_page.read_content.Goals as goal

pub loop-line-init : goal.loop-line-init
loop-line-init g c = content_begun g.T.Line.PageLine.form g.T.Content.reads c.args.found.now.items c.args.lines.items

pub loop-line-preserved : goal.loop-line-preserved
loop-line-preserved g c =
    let l = c.loop-line in
    let reads = g.T.Content.reads in
    let was = c.args.found.now.items in
    let all = c.args.lines.items in
    let rest : l.lines.items ≡ c.in-Some.line ∷ c.pop_front.new.self.items = search rules in
    content_more g.T.Line.PageLine.form reads was all l.found.items c.push.new.self.items c.in-Some.line c.pop_front.new.self.items c.in-Ok.item
    (subst (λ ls. OntoContent g.T.Line.PageLine.form reads was l.found.items all ls) rest l.invariant)
    c.in-Ok.ensures c.in_ok-push-in-Ok.ensures.items
