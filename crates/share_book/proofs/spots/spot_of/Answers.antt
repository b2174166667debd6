use Rattle.std.proofs.Common.{◌≡◌, Some, sym, ap, ◌∙◌}
use Rattle.share_catalog.specs.Catalogue.{binding_edition}
use Rattle.share_catalog.specs.Views.{spot_with}
use Rattle.share_book.proofs.Listed.{spot_is}
use Rattle.share_book.proofs.spots.spot_of.Goals as goal

pub returns : goal.returns
returns c =
    let edition = c.binding_edition-edition.ensures in
    let binding = c.in_ok-binding.ensures in
    let same : c.of.result ≡ spot_with c.in-Some.grant (c.in-Some-binding.binding.now, binding_edition c.args.catalog.now.edits c.args.table.now) =
    c.of.ensures ∙ (λ i. spot_with c.in-Some.grant (binding i, edition i)) in
    ap Some same ∙ spot_is c.args.catalog.now.edits c.args.recipient.now c.args.table.now c.in-Some.grant c.as_str.result.now c.binding.result c.in-Some-binding.binding (λ b. b.now) c.as_str.ensures.value (sym c.in-Some.is ∙ c.grant_of.ensures) c.in-Some-binding.is c.binding.ensures
