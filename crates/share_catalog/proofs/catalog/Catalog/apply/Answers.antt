use Rattle.std.proofs.Common.{◌≡◌, None, sym, ◌∙◌, subst}
use Rattle.share_catalog.specs.Catalogue.{refusal_of}
use Rattle.share_catalog.proofs.After.{catalog_after, nothing_refuses}
use Rattle.share_catalog.proofs.catalog.Catalog.apply.Goals as goal

pub invariant_of-self : goal.invariant_of-self
invariant_of-self c =
    let accepted : refusal_of c.args.self.now.edits c.args.edit ≡ None = nothing_refuses c.args.self.now.edits c.args.edit c.admits.result c.in_ok-admits.field-0 c.admits.ensures c.in_ok-admits.was in
    rw c.with-past.ensures
    (catalog_after c.self.inside.held c.apply.new.self c.self.inside.past c.args.edit c.self.inside.count c.self.inside.spare c.take.new.self c.in-Some.spare c.self.invariant
    (sym c.take.ensures.value ∙ c.in-Some.is) c.take.ensures.after (subst (λ s. refusal_of s.edits c.args.edit ≡ None) (sym c.self.view_is) accepted) c.apply.ensures)
