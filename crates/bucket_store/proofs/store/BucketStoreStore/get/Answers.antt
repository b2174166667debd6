use Rattle.std.proofs.Common.{◌∙◌, arith, inl, inr, refl, subst, sym}
use Rattle.edge_core.specs.Faults.{Cause}
use Rattle.edge_core.specs.declared.store.Got.TheVariants as got
use Rattle.bucket_store.proofs.Knowing.{known_as, known_same}
use Rattle.bucket_store.proofs.Untold.{gets_untold}
use Rattle.bucket_store.proofs.store.BucketStoreStore.get.Goals as goal

pub returns-then-is_past-clause-bytes : goal.returns-then-is_past-clause-bytes
returns-then-is_past-clause-bytes g c = gets_untold c.args.name.now c.args.from (got.Bytes 0) c.args.out.now (omega arith)

pub returns-then-is_past-clause-told : goal.returns-then-is_past-clause-told
returns-then-is_past-clause-told g c =
    let past = rw c.as_str.ensures.value at (sym c.is_past.ensures ∙ c.if-is_past.true) in
    known_same (λ s. inl (past, refl, refl, refl))

pub returns-clause-bytes : goal.returns-clause-bytes
returns-clause-bytes g c = gets_untold c.args.name.now c.args.from c.get_part-got.result.got c.get_part-got.new.out c.get_part-got.ensures.within

pub returns-clause-cause : goal.returns-clause-cause
returns-clause-cause g c = subst (λ b. Cause c.args.self.now.faults c.count_fault.new.self.faults b) c.is_failed_get.ensures c.count_fault.ensures.cause

pub returns-clause-told : goal.returns-clause-told
returns-clause-told g c =
    rw (c.count_fault.ensures.rest.road, c.count_fault.ensures.rest.end)
    (known_as (rw c.as_str-2.ensures.value at c.get_part-got.ensures.told) (λ s t reads. inr reads))
