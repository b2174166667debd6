use Rattle.std.proofs.Common.{subst}
use Rattle.edge_core.specs.Faults.{Cause}
use Rattle.bucket_store.proofs.Untold.{measures_untold}
use Rattle.bucket_store.proofs.store.BucketStoreStore.size.Goals as goal

pub returns-clause-size : goal.returns-clause-size
returns-clause-size g c = measures_untold c.args.name.now c.size_of-size.result

pub returns-clause-cause : goal.returns-clause-cause
returns-clause-cause g c = subst (λ b. Cause c.args.self.now.faults c.count_fault.new.self.faults b) c.is_failed_size.ensures c.count_fault.ensures.cause

pub returns-clause-told : goal.returns-clause-told
returns-clause-told g c = rw c.count_fault.ensures.rest.road (rw c.as_str.ensures.value at c.size_of-size.ensures)
