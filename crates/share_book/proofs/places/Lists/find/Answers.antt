use Rattle.std.proofs.Common.{◌≡◌, List, map, sym, ap, ◌∙◌, subst}
use Rattle.std.specs.Prelude.{Contains}
use Rattle.std.specs.Arc.{arc_value}
use Rattle.std.specs.Cmp.Lexicographic.{bytes_decides}
use Rattle.share_book.specs.Placed.{PlacesView}
use Rattle.share_book.proofs.Placing.{found_among}
use Rattle.share_book.proofs.places.Lists.find.Goals as goal

pub returns-then-is_of : goal.returns-then-is_of
returns-then-is_of c =
    let list : PlacesView = c.deref-list.result.now in
    let only : list.only ≡ c.args.only.now = (bytes_decides list.only c.args.only.now).0 (sym c.is_of.ensures ∙ c.if-is_of.true) in
    let places : list.places ≡ c.places.result.now = sym c.places.ensures in
    let same : list ≡ record { only = c.args.only.now; places = c.places.result.now } = λ i. record { only = only i; places = places i } in
    let among = found_among arc_value c.deref-list-items.result.now c.loop-list.list-index c.list-item.result c.loop-list-test.true c.list-item.is in
    let view : map arc_value c.deref-list-items.result.now ≡ c.args.self.now = ap (map arc_value) c.deref-list-items.ensures.value ∙ c.self.view_is in
    subst (λ (p : PlacesView). Contains c.args.self.now p) (sym c.deref-list.ensures ∙ same) (subst (λ (l : List PlacesView). Contains l (arc_value c.list-item.result)) view among)
