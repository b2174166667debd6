use Rattle.std.proofs.Common.{◌≡◌, false, map, nat_lt, arith, ap, ◌∙◌}
use Rattle.std.specs.Arc.{arc_value}
use Rattle.std.proofs.lemmas.Bool.Decides.{nat_tests}
use Rattle.std.proofs.lemmas.List.{length-map}
use Rattle.share_book.specs.Parts as parts
use Rattle.share_book.specs.Views.{Log}
use Rattle.share_book.proofs.Feeds.{feed_since}
use Rattle.share_book.proofs.MarkBounds.{marks_counted}
use Rattle.share_book.proofs.log_part.feed_from_first.Goals as goal

pub feed_of-requires-clause-counted : goal.feed_of-requires-clause-counted
feed_of-requires-clause-counted c = marks_counted (map arc_value c.log.inside.commits.now) c.log.inside.marks.now c.log.invariant.marked ∙ length-map c.log.inside.commits.now arc_value

pub returns-clause-found : goal.returns-clause-found
returns-clause-found c =
    let feed = c.in_ok-feed_of.ensures c.log.inside.blocked ∙ ap (λ (l : Log). parts.feed_of l c.args.from c.args.to) c.log.view_is in
    let since : nat_lt c.args.from c.args.spot.now.first ≡ false = let le = c.if-from-first.false in let is = c.get-first.ensures.value in let at = c.first.ensures in grind (arith, nat_tests, le, is, at) in
    feed_since c.args.spot.now c.args.log.now c.args.from c.args.to c.in_ok-feed_of.field-0 since feed
