use Rattle.std.proofs.Common.{◌∙◌, [], None, inl, refl, subst}
use Rattle.bucket_store.specs.Folders.{ListsFront}
use Rattle.bucket_store.proofs.Knowing.{known_as, known_same}
use Rattle.bucket_store.proofs.listing.list_folder.Goals as goal

pub returns-in-Ok : goal.returns-in-Ok
returns-in-Ok g c =
    known_as c.list_front.ensures
    (λ s t lists. subst (λ f. ListsFront c.args.place.now f c.list_front.result s t) (c.as_str.ensures.value ∙ c.in-Ok.ensures) lists)

pub returns-in-Err : goal.returns-in-Err
returns-in-Err g c = known_same (λ s. ([], None, s, (refl, refl), inl refl))
