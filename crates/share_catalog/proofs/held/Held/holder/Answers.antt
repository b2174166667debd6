use Rattle.std.specs.Ordering.{nat_cmp}
use Rattle.std.specs.Cmp.Lexicographic.{slice_cmp}
use Rattle.std.proofs.lemmas.Cmp.{nat_list_cmp_total}
use Rattle.share_catalog.proofs.SortedLemmas.{value_found}
use Rattle.share_catalog.proofs.held.Held.holder.Goals as goal

pub returns : goal.returns
returns c =
    rw (c.value_at.ensures, c.place_of_digest.ensures.place, c.deref.ensures.value, c.deref-2.ensures.value)
    (value_found (slice_cmp nat_cmp) (λ k. k) nat_list_cmp_total c.args.self.now.holders.items c.args.digest.now c.requires.holders)
