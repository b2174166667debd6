use Rattle.edge_core.proofs.Shelves.{listing_sorted}
use Rattle.edge_core.proofs.shelf.Shelf.list.Goals as goal

pub returns : goal.returns
returns c = rw (← c.self.view_is, c.of.ensures, c.in_ok-segments_of.ensures, c.deref.ensures.value, c.deref-2.ensures.value, c.as_str.ensures.value) (listing_sorted _ _ c.self.invariant.sorted)
