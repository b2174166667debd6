use Rattle.bucket_store.proofs.store.BucketStoreStore.list.Goals as goal

pub returns-in-Some-clause-told : goal.returns-in-Some-clause-told
returns-in-Some-clause-told g c = rw c.as_str.ensures.value at c.in-Some.ensures

pub returns-in-None-clause-told : goal.returns-in-None-clause-told
returns-in-None-clause-told g c = rw c.count_fault.ensures.rest.road (rw c.as_str.ensures.value at c.in-None.ensures)
