use Rattle.std.proofs.Common.{◌∙◌, ap, sym}
use Rattle.bucket_store.specs.Looks.{list_next}
use Rattle.bucket_store.proofs.listing.page_told.Goals as goal

pub returns-in-Page-clause-fine : goal.returns-in-Page-clause-fine
returns-in-Page-clause-fine c = λ _. sym (c.list_next.ensures ∙ ap (λ x. list_next c.args.answer.now.made x) c.status_of.ensures) ∙ c.in-Page.is
