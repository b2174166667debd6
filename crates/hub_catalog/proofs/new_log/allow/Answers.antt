use Rattle.std.proofs.Common.{◌≡◌, ℕ, List, Some, Ok, false, option_map, sym, ap, ◌∙◌, subst}
use Rattle.share_catalog.specs.Catalogue.{bound_location}
use Rattle.share_book.specs.Legal.{has_log}
use Rattle.hub_catalog.specs.CatalogTurns.{ChecksIn, located_by, start_from}
use Rattle.hub_catalog.specs.declared.catalog_turns.Checked.{Checked}
use Rattle.hub_catalog.specs.NewLogs.{IsNewLog}
use Rattle.edge_core.specs.Objects.{Between}
use Rattle.hub_catalog.proofs.new_log.allow.Goals as goal

pub returns-in-Ok-clause-allowed : goal.returns-in-Ok-clause-allowed
returns-in-Ok-clause-allowed g c = λ h checks.
    let e = c.args.edit.now in
    let fits = subst (λ (x : Checked). ChecksIn x e h) c.in-Unlocated.is checks in
    let log : IsNewLog (Ok c.in-Ok.log) c.in-Some.location.now (g.W.Store.objects c.args.store.now) (g.W.Store.objects c.new_log.new.store) = c.in-Ok.ensures.log in
    let bound : bound_location e ≡ Some c.in-Some.location.now = sym c.bound_location.ensures ∙ ap (option_map (λ l. l.now)) c.in-Some.is in
    let at : bound_location e ≡ Some c.in-Ok.log.location = bound ∙ ap (λ (l : List ℕ). Some l) (sym log.0) in
    let unlocated : has_log h c.in-Ok.log.location ≡ false = sym (ap (located_by h) at) ∙ fits.1 in
    let there = subst (λ (l : List ℕ). Between (g.W.Store.objects c.args.store.now) (g.W.Store.objects c.new_log.new.store) (λ os. c.in-Ok.log ≡ start_from l os)) (sym log.0) log.2 in
    (fits.0, (at, unlocated, log.1), (at, there))
