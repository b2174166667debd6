use Rattle.std.proofs.Common.{◌∙◌, None, subst}
use Rattle.bucket_store.specs.Folders.{GetsPage}
use Rattle.bucket_store.proofs.Knowing.{known_as}
use Rattle.bucket_store.proofs.check.check_listed.Goals as goal

pub returns-in-Ok-page_at : goal.returns-in-Ok-page_at
returns-in-Ok-page_at g c =
    let page = c.in-Ok-page_at.field-0 in
    known_as c.in-Ok-page_at.ensures
    (λ s t gets. (page, subst (λ f. GetsPage c.args.place.now f None page s t) (c.as_str.ensures.value ∙ c.in-Ok.ensures) gets))

pub returns : goal.returns
returns g c = known_as c.in-Err.ensures (λ s t _. tt)
