use Rattle.std.specs.Ordering.{nat_cmp}
use Rattle.std.specs.Cmp.Lexicographic.{slice_cmp}
use Rattle.share_catalog.proofs.SortedLemmas.{taken_there}
use Rattle.share_catalog.proofs.sorted.take_digest.Goals as goal

pub returns-clause-items : goal.returns-clause-items
returns-clause-items g c =
    rw (c.take.ensures.items, c.place_of_digest-place.ensures.place, c.deref.ensures.value)
    (taken_there (slice_cmp nat_cmp) (λ k. k) c.args.items.now.items c.args.digest.now)
