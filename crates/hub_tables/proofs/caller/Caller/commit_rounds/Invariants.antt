use Rattle.std.proofs.Common.{◌≡◌, ◌≤◌, List, length}
use Rattle.log_actions.specs.declared.actions.Action.{Action}
use Rattle.log_store.specs.Loads.{Looked}
use Rattle.share_book.specs.History.{table_on}
use Rattle.share_book.specs.Legal.{There}
use Rattle.hub_calls.specs.Calls.{IsIdle}
use Rattle.hub_tables.specs.TableCalls.{GoesOn}
use Rattle.hub_tables.specs.FoundCommits.{AreFound}
use Rattle.hub_tables.specs.TableRounds.{HoldsHead}
use Rattle.hub_tables.proofs.caller.Caller.commit_rounds.Given as goal

abbrev pub invariant-loop-found : goal.invariant-loop-found
invariant-loop-found g l = record {
  same : IsIdle l.fn.pass l.pass;
  found : (found : List (List Action)) × (length found ≡ l.found) × GoesOn l.fn.pass l.pass l.attempt.log found × There (table_on l.attempt.log l.fn.pass.seen) (λ t. AreFound l.attempt.offer.now.location (g.W.Store.objects l.store) t.commits found);
  begun : HoldsHead l.pass l.attempt.log l.head;
  looked : Looked (g.W.Store.objects l.fn.store) (g.W.Store.objects l.store) (g.W.Store.alone l.fn.store) (g.W.Store.alone l.store);
  later : g.W.Store.faults l.fn.store ≤ g.W.Store.faults l.store;
  stored : g.W.Store.stored l.store ≡ g.W.Store.stored l.fn.store;
}
