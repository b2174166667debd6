use Rattle.std.proofs.Common.{◌+◌, List, ℕ, take, sym, ap, ◌∙◌, subst}
use Rattle.std.specs.Prelude.{filter}
use Rattle.pred_tree.specs.Shown.{shown_in}
use Rattle.share_book.specs.Placed.{AreAt}
use Rattle.share_book.proofs.Placing.{lists_shown, passes_hidden}
use Rattle.share_book.proofs.places.shown_places.Goals.{then-shows+in_ok-push, else-shows}
use Rattle.share_book.proofs.places.shown_places.Goals as goal

pub loop-at-preserved : goal.loop-at-preserved
loop-at-preserved c =
    let test = shown_in c.args.shown.now in
    let files = c.args.snapshot.now.files in
    let at = c.loop-at.at in
    let x = c.file.result.now in
    let old = c.loop-at.places.items in
    elim c.if-shows.branch [
      | then-shows+in_ok-push w ↦
          subst (λ (ys : List ℕ). AreAt files ys (filter test (take (at + 1) files))) (sym (ap (λ v. v.items) w.places-is ∙ w.in_ok-push.ensures.items))
          (lists_shown test files old at x c.loop-at.invariant c.file.ensures (sym c.shows.ensures ∙ w.if-shows.true))
      | else-shows w ↦
          subst (λ v. AreAt files v.items (filter test (take (at + 1) files))) (sym w.places-is)
          (passes_hidden test files old at x c.loop-at.invariant c.file.ensures (sym c.shows.ensures ∙ w.if-shows.false))
    ]
