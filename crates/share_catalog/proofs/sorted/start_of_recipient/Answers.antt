use Rattle.std.proofs.Common.{rules, refl, ◌∷◌, []}
use Rattle.std.specs.Ordering.{nat_cmp, is_lt}
use Rattle.std.specs.Cmp.Lexicographic.{slice_cmp}
use Rattle.std.proofs.lemmas.Fn.{always_returns_same}
use Rattle.share_catalog.specs.Entries.{pair_texts}
use Rattle.share_catalog.proofs.ListingLemmas.{is_less, partitioned}
use Rattle.share_catalog.proofs.sorted.start_of_recipient.Goals as goal

pub returns-clause-before : goal.returns-clause-before
returns-clause-before g c =
    let parted = c.partition_point.ensures.partitioned (λ x. is_lt (slice_cmp nat_cmp x.key.recipient c.args.recipient.now)) (always_returns_same _ _ _ (λ a r f called. (search rules, search rules)))
    (partitioned pair_texts (λ k. k.recipient) (λ k. k.share ∷ []) (λ k. refl) c.args.items.now c.args.recipient.now c.requires) in
    λ k d low lt. is_less _ (parted.0 k d low lt)
