use Rattle.bucket_store.proofs.store.BucketStore.check.Goals as goal

pub returns-clause-told : goal.returns-clause-told
returns-clause-told g c = rw c.as_str.ensures at c.check_bucket.ensures.told
