use Rattle.std.proofs.Common.{length, map, sym, ap, ◌∙◌}
use Rattle.std.specs.Arc.{arc_value}
use Rattle.std.proofs.lemmas.List.{length-map}
use Rattle.share_book.specs.Views.{Log}
use Rattle.share_book.proofs.Versions.{states_counted}
use Rattle.share_book.proofs.log_part.SeenLog.len.Goals as goal

pub returns-clause-states : goal.returns-clause-states
returns-clause-states c =
    let commits = map arc_value c.self.inside.commits.now in
    sym (length-map c.self.inside.commits.now arc_value) ∙ sym (states_counted commits c.self.inside.blocked) ∙ ap (λ (l : Log). length l.states) c.self.view_is
