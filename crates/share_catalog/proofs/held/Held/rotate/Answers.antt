use Rattle.std.specs.Ordering.{nat_cmp}
use Rattle.std.specs.Cmp.Lexicographic.{slice_cmp}
use Rattle.std.proofs.lemmas.Cmp.{nat_list_cmp_total}
use Rattle.share_catalog.specs.Entries.{entries}
use Rattle.share_catalog.proofs.SortedLemmas.{is_sorted-take_out}
use Rattle.share_catalog.proofs.held.Held.rotate.Goals as goal

pub put_digest-requires-clause-sorted : goal.put_digest-requires-clause-sorted
put_digest-requires-clause-sorted c =
    rw c.take_digest.ensures.items
    (is_sorted-take_out (slice_cmp nat_cmp) nat_list_cmp_total _ (entries (λ k. k) c.args.self.now.holders.items) c.requires.sorted.holders)
