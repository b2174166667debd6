use Rattle.std.proofs.Common.{◌≡◌, ℕ, ◌<◌, length, map, ap, ◌∙◌, subst}
use Rattle.std.specs.Arc.{arc_value}
use Rattle.std.specs.Result.{IfOk}
use Rattle.share_book.specs.Views.{Log}
use Rattle.share_book.proofs.MarkBounds.{marks_counted}
use Rattle.share_book.proofs.log_part.SeenLog.resolve.Goals as goal

pub returns-clause-kept : goal.returns-clause-kept
returns-clause-kept c =
    let count : length c.self.inside.marks.now ≡ length (map arc_value c.self.inside.commits.now) = marks_counted (map arc_value c.self.inside.commits.now) c.self.inside.marks.now c.self.invariant.marked in
    let same : length (map arc_value c.self.inside.commits.now) ≡ length c.args.self.now.commits = ap (λ (l : Log). length l.commits) c.self.view_is in
    subst (λ (n : ℕ). IfOk c.resolve.result (λ version. version < n)) (count ∙ same) c.resolve.ensures.kept
