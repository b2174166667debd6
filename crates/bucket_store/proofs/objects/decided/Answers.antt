use Rattle.std.proofs.Common.{refl, subst, sym}
use Rattle.bucket_store.specs.Objects.{Follows}
use Rattle.bucket_store.proofs.Knowing.{known_as, known_same}
use Rattle.bucket_store.proofs.objects.decided.Goals as goal

pub returns-in-Done : goal.returns-in-Done
returns-in-Done g c =
    known_same (λ s. subst (λ n. Follows c.args.place.now c.args.key.now c.args.mark.now n c.in-Done.put s s) (sym c.in-Done.is) (refl, refl))

pub returns-in-Look : goal.returns-in-Look
returns-in-Look g c =
    known_as c.look.ensures
    (λ s t looks. subst (λ n. Follows c.args.place.now c.args.key.now c.args.mark.now n c.look.result s t) (sym c.in-Look.is) looks)
