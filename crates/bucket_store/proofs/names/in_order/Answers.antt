use Rattle.std.specs.Cmp.Lexicographic.{nat_list_cmp_total, slice_cmp}
use Rattle.std.specs.Ordering.{is_lt, nat_cmp}
use Rattle.std.proofs.Common.{rules, subst, sym}
use Rattle.std.proofs.lemmas.List.Sorted.{answers_always, ranks_by}
use Rattle.bucket_store.specs.Folders.{IsInOrder}
use Rattle.bucket_store.proofs.names.in_order.Goals as goal

pub returns-in-Ok : goal.returns-in-Ok
returns-in-Ok c =
    let sorted : IsInOrder c.args.segments.items c.sort_by.new.self.items =
    record {
      same = c.sort_by.ensures.permutation;
      order = c.in-Ok.ensures.sorted (λ x y. is_lt (slice_cmp nat_cmp x y)) (ranks_by nat_list_cmp_total (λ a. a)) (answers_always _ _ _ (λ f a r g h. search rules));
    } in
    subst (λ x. IsInOrder c.args.segments.items x) (sym c.of.ensures) sorted
