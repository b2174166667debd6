use Rattle.std.proofs.Common.{◌≡◌, ap, ◌∙◌, drop, map}
use Rattle.std.specs.Arc.{arc_value}
use Rattle.log_replay.proofs.Reached.{Arcs}
use Rattle.share_book.specs.TableView.{TableView}
use Rattle.share_book.proofs.States.{rest_of}
use Rattle.share_book.proofs.table.Table.commits_from.Goals as goal

pub returns : goal.returns
returns c =
    let commits : Arcs = c.self.inside.commits.items in
    let log : map arc_value commits ≡ c.args.self.now.log.commits = ap (λ (t : TableView). t.log.commits) c.self.view_is in
    rest_of c.deref.result.now c.args.version c.of-2.result (c.of-2.ensures ∙ c.in_ok-shared.ensures)
    ∙ ap (λ (cs : Arcs). drop c.args.version (map arc_value cs)) c.deref.ensures.value ∙ ap (drop c.args.version) log
