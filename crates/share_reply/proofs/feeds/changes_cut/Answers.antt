use Rattle.std.proofs.Common.{ap, sym, ◌∙◌, take, drop}
use Rattle.share_reply.specs.Pages.{at_most}
use Rattle.share_reply.proofs.Trailing.{given_all}
use Rattle.share_reply.proofs.feeds.changes_cut.Goals as goal
use Rattle.share_reply.proofs.feeds.changes_cut.Goals.{in-Some, in-None}

pub returns : goal.returns
returns c =
    let rest = drop c.args.place c.args.changes.items in
    elim c.match-most.branch [
      | in-Some w ↦ ap (λ v. v.items) w.page-is ∙ w.truncate.ensures.items ∙ ap (take w.in-Some.most) c.in_ok-page.ensures.tail ∙ ap (λ m. at_most m rest) (sym w.in-Some.is) ∙ sym (given_all c.args.most c.args.place c.args.changes.items)
      | in-None w ↦ ap (λ v. v.items) w.page-is ∙ c.in_ok-page.ensures.tail ∙ ap (λ m. at_most m rest) (sym w.in-None.is) ∙ sym (given_all c.args.most c.args.place c.args.changes.items)
    ]
