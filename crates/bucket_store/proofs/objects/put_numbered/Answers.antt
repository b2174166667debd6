use Rattle.std.proofs.Common.{◌∙◌}
use Rattle.bucket_store.proofs.objects.put_numbered.Goals as goal

pub returns-clause-told : goal.returns-clause-told
returns-clause-told g c = rw (c.as_str.ensures.value ∙ c.in-Ok.ensures) at c.put_absent.ensures
