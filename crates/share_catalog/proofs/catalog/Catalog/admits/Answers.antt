use Rattle.std.proofs.Common.{sym, ◌∙◌, ap}
use Rattle.share_catalog.specs.CatalogState.{unless}
use Rattle.share_catalog.proofs.Refusals.{refuses}
use Rattle.share_catalog.proofs.catalog.Catalog.admits.Goals as goal

pub returns-in-Some : goal.returns-in-Some
returns-in-Some c =
    rw (← c.self.view_is) (ap unless (sym c.in-Some.is ∙ c.refusal.ensures ∙ refuses _ c.self.inside.past c.self.invariant.fits c.args.edit.now))

pub returns-in-None : goal.returns-in-None
returns-in-None c =
    rw (← c.self.view_is) (ap unless (sym c.in-None.is ∙ c.refusal.ensures ∙ refuses _ c.self.inside.past c.self.invariant.fits c.args.edit.now))
