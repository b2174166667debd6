use Rattle.std.specs.Ordering.{nat_cmp}
use Rattle.std.specs.Cmp.Lexicographic.{slice_cmp}
use Rattle.share_catalog.proofs.SortedLemmas.{put_there}
use Rattle.share_catalog.proofs.sorted.put_digest.Goals as goal

pub returns : goal.returns
returns g c =
    rw (c.put.ensures, c.place_of_digest-place.ensures.place, c.deref.ensures.value)
    (put_there (slice_cmp nat_cmp) (λ k. k) c.args.items.now.items c.args.digest c.args.value)
