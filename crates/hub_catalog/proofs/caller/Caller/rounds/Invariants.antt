use Rattle.std.proofs.Common.{◌≡◌, ◌≤◌, List, length}
use Rattle.log_store.specs.Loads.{Looked}
use Rattle.share_book.specs.History.{edits}
use Rattle.hub_calls.specs.Calls.{IsIdle}
use Rattle.hub_catalog.specs.CatalogCalls.{Goes, HasBegun, Step}
use Rattle.hub_catalog.specs.Edits.{AreSteps}
use Rattle.hub_catalog.proofs.caller.Caller.rounds.Given as goal

abbrev pub invariant-loop-turn : goal.invariant-loop-turn
invariant-loop-turn g l = record {
  same : IsIdle l.fn.pass l.pass;
  found : (found : List Step) × (length found ≡ l.turn) × Goes l.fn.pass l.pass found × AreSteps (g.W.Store.objects l.fn.store) (g.W.Store.objects l.store) (length (edits l.fn.pass.seen)) found;
  begun : HasBegun l.pass l.number;
  looked : Looked (g.W.Store.objects l.fn.store) (g.W.Store.objects l.store) (g.W.Store.alone l.fn.store) (g.W.Store.alone l.store);
  later : g.W.Store.faults l.fn.store ≤ g.W.Store.faults l.store;
  stored : g.W.Store.stored l.store ≡ g.W.Store.stored l.fn.store;
}
