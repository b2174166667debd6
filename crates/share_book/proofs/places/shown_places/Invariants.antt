use Rattle.std.proofs.Common.{take}
use Rattle.std.specs.Prelude.{filter}
use Rattle.pred_tree.specs.Shown.{shown_in}
use Rattle.share_book.specs.Placed.{AreAt}
use Rattle.share_book.proofs.places.shown_places.Given as goal

abbrev pub invariant-loop-at : goal.invariant-loop-at
invariant-loop-at l = AreAt l.snapshot.files l.places.items (filter (shown_in l.shown) (take l.at l.snapshot.files))
