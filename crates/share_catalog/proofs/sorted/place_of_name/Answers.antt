use Rattle.std.proofs.Common.{rules}
use Rattle.std.specs.Ordering.{nat_cmp}
use Rattle.std.specs.Cmp.Lexicographic.{slice_cmp}
use Rattle.std.proofs.lemmas.Cmp.{nat_list_cmp_total}
use Rattle.std.proofs.lemmas.Fn.{always_returns_same}
use Rattle.share_catalog.proofs.SortedLemmas.{searched}
use Rattle.share_catalog.proofs.sorted.place_of_name.Goals as goal

pub returns-clause-place : goal.returns-clause-place
returns-clause-place g c =
    searched (slice_cmp nat_cmp) (λ k. k) nat_list_cmp_total c.args.items.now c.args.name.now c.binary_search_by.result c.requires c.binary_search_by.ensures.bound
    (c.binary_search_by.ensures.position (λ x. slice_cmp nat_cmp x.key c.args.name.now) (always_returns_same _ _ _ (λ a r f called. (search rules, search rules))))
