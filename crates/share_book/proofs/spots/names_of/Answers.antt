use Rattle.std.proofs.Common.{◌≡◌, map, ◌∙◌, subst}
use Rattle.std.specs.Result.{IfOk}
use Rattle.share_catalog.specs.declared.listing.Granted.{Granted}
use Rattle.share_book.specs.Looked.{names_by, tables_of_grants}
use Rattle.share_book.specs.NamesView.{NamesView}
use Rattle.share_book.proofs.Listed.{names_are}
use Rattle.share_book.proofs.spots.names_of.Goals as goal

pub returns : goal.returns
returns c =
    let es = c.args.catalog.now.edits in
    let value = c.deref.ensures.value in
    let same : record { shares = map (λ (g : Granted). g.share.now) c.deref.result.now; tables = tables_of_grants es c.deref.result.now } ≡ names_by es c.args.recipient.now =
    (λ i. record { shares = map (λ (g : Granted). g.share.now) (value i); tables = tables_of_grants es (value i) }) ∙ names_are es c.args.recipient.now c.in_ok-grants.grants.items c.in_ok-grants.ensures in
    subst (λ (n : NamesView). IfOk c.names_among.result (λ names. names ≡ n)) same c.names_among.ensures
