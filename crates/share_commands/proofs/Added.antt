-- What runs added stands.
use Rattle.std.proofs.Common.{◌≡◌, ℕ, Bool, List, Option, Some, sym, subst, ◌∙◌}
use Rattle.std.specs.Prelude.{slice_index_or}
use Rattle.std.specs.Option.{IsSomeAnd}
use Rattle.edge_core.specs.Lines.{ClosedLine}
use Rattle.edge_core.specs.Objects.{Objects}
use Rattle.hub_calls.specs.Calls.{P}
use Rattle.hub_catalog.specs.Opens.{first_history}
use Rattle.share_commands.specs.Standing.{ServeStands, StdioStands}
use Rattle.share_hub.specs.Backing.{AddsStanding}
use Rattle.share_pool.specs.Desks.{post_of}
use Rattle.share_pool.specs.Standing.{WhatWorkersAddStands}
use Rattle.share_pool.specs.declared.desk.Desk.{Desk}
use Rattle.share_serve.specs.Callers.{server_of}
use Rattle.share_serve.specs.Standing.{WhatIsAddedStands}
use Rattle.turn_cell.specs.Passes.{fresh}

pub stdio_stands : WhatIsAddedStands → StdioStands
stdio_stands sessions config e old new s = sessions (server_of config) old.left new.left _ _ e s.session

same_pass : (p q : P) → Some p ≡ Some q → p ≡ q
same_pass p q e = cc

module _ {N W C : Type 0} (L : Type 0) (coming : N → Option (List (List ℕ))) (closed : N → Option (List ClosedLine)) (failed : N → ℕ) (listens : N → Option ℕ) (moments : C → Option (List ℕ)) (objects : W → Option Objects) (alone : W → Bool) (faults : W → ℕ) (stored : W → ℕ) where
  pub serve_stands : WhatWorkersAddStands → ServeStands L coming closed failed listens moments objects alone faults stored
  serve_stands workers_add config found port workers e old new w i d below =
      let at = w.each i d below in
      let ready : Desk N W C L = at.0 in
      let works = at.4 in
      let added = workers_add (server_of config) (post_of coming closed failed listens moments objects alone faults stored ready works.before) (post_of coming closed failed listens moments objects alone faults stored (slice_index_or new i d) works.after) works.works.0 works.works.1 in
      let began : works.before ≡ fresh w.hub i (first_history found) = same_pass works.before (fresh w.hub i (first_history found)) (sym works.had ∙ at.2) in
      subst (λ (o : Option P). IsSomeAnd o (λ p. AddsStanding (fresh w.hub i (first_history found)) p (objects (slice_index_or new i d).store))) (sym works.has)
      (subst (λ (p : P). AddsStanding p works.after (objects (slice_index_or new i d).store)) began added)
