use Rattle.std.proofs.Common.{rules, refl, ◌∷◌, []}
use Rattle.std.specs.Ordering.{nat_cmp, is_lt}
use Rattle.std.specs.Cmp.Lexicographic.{slice_cmp}
use Rattle.std.proofs.lemmas.Fn.{always_returns_same}
use Rattle.share_catalog.specs.TableNames.{parts_of}
use Rattle.share_catalog.proofs.ListingLemmas.{is_less, partitioned}
use Rattle.share_catalog.proofs.sorted.start_of_share.Goals as goal

pub returns-clause-before : goal.returns-clause-before
returns-clause-before g c =
    let parted = c.partition_point.ensures.partitioned (λ x. is_lt (slice_cmp nat_cmp x.key.share c.args.share.now)) (always_returns_same _ _ _ (λ a r f called. (search rules, search rules)))
    (partitioned parts_of (λ k. k.share) (λ k. k.schema ∷ k.table ∷ []) (λ k. refl) c.args.items.now c.args.share.now c.requires) in
    λ k d low lt. is_less _ (parted.0 k d low lt)
