use Rattle.std.proofs.Common.{map, sym, ap, ◌∙◌, subst}
use Rattle.std.specs.Prelude.{All, option_copied}
use Rattle.std.specs.Arc.{arc_value}
use Rattle.share_book.specs.Placed.{IsListOf}
use Rattle.share_book.proofs.Placing.{kept_too, older_are}
use Rattle.share_book.proofs.places.Lists.with.Goals.{then-len-lt-MOST+then-places-files+in_ok-try_clone+in_ok-push-2, else-len-lt-MOST}
use Rattle.share_book.proofs.places.Lists.with.Goals as goal

pub loop-list-preserved : goal.loop-list-preserved
loop-list-preserved c = λ s old one.
    let all = c.loop-list.invariant s old one in
    let olders = subst (All (IsListOf s)) (sym c.items_of-list-items.ensures) (older_are s (option_copied c.args.older) old) in
    elim c.if-len-lt-MOST.branch [
      | then-len-lt-MOST+then-places-files+in_ok-try_clone+in_ok-push-2 w ↦
          subst (λ v. All (IsListOf s) (map arc_value v)) (sym (ap (λ v. v.items) w.items-is ∙ w.in_ok-push-2.ensures.items))
          (kept_too arc_value s c.loop-list.items.items c.items_of-list-items.result.now c.loop-list.list-index c.list-item.result w.in_ok-try_clone.field-0 c.loop-list-test.true c.list-item.is w.in_ok-try_clone.ensures olders all)
      | else-len-lt-MOST w ↦ subst (λ v. All (IsListOf s) (map arc_value v.items)) (sym w.items-is) all
    ]
