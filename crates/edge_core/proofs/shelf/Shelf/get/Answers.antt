use Rattle.edge_core.proofs.Shelves.{get_sorted}
use Rattle.edge_core.proofs.shelf.Shelf.get.Goals as goal

pub returns : goal.returns
returns c = rw (← c.self.view_is, c.found.ensures, c.deref.ensures.value, c.deref-2.ensures.value, c.as_str.ensures.value) (get_sorted _ _ c.self.invariant.sorted)
