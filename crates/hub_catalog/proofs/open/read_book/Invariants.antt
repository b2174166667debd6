use Rattle.std.proofs.Common.{◌≡◌, ◌≤◌, ◌∷◌, List, length, true}
use Rattle.log_store.specs.Loads.{Looked}
use Rattle.share_book.specs.Books.{rests}
use Rattle.share_book.specs.History.{entry}
use Rattle.share_book.specs.declared.entry.Act.TheVariants.{Begin}
use Rattle.hub_catalog.specs.CatalogCalls.{Step, finds}
use Rattle.hub_catalog.specs.Edits.{AreSteps}
use Rattle.hub_catalog.proofs.open.read_book.Given as goal

abbrev pub invariant-loop-number : goal.invariant-loop-number
invariant-loop-number g l = record {
  rests : rests l.book ≡ true;
  found : (found : List Step) × (length found ≡ l.number) × (l.book.past.history ≡ entry 0 0 Begin ∷ finds 0 found) × AreSteps (g.W.Store.objects l.fn.store) (g.W.Store.objects l.store) 0 found;
  looked : Looked (g.W.Store.objects l.fn.store) (g.W.Store.objects l.store) (g.W.Store.alone l.fn.store) (g.W.Store.alone l.store);
  later : g.W.Store.faults l.fn.store ≤ g.W.Store.faults l.store;
  stored : g.W.Store.stored l.store ≡ g.W.Store.stored l.fn.store;
}
