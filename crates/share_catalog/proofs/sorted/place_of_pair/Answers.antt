use Rattle.std.proofs.Common.{rules}
use Rattle.std.proofs.lemmas.Fn.{always_returns_same}
use Rattle.share_catalog.specs.Entries.{pair_texts, texts}
use Rattle.share_catalog.specs.TableNames.{texts_cmp}
use Rattle.share_catalog.proofs.Orders.{texts_total}
use Rattle.share_catalog.proofs.SortedLemmas.{searched}
use Rattle.share_catalog.proofs.sorted.place_of_pair.Goals as goal

pub returns-clause-place : goal.returns-clause-place
returns-clause-place g c =
    searched texts_cmp pair_texts texts_total c.args.items.now (texts c.args.recipient.now c.args.share.now) c.binary_search_by.result c.requires c.binary_search_by.ensures.bound
    (c.binary_search_by.ensures.position (λ x. texts_cmp (pair_texts x.key) (texts c.args.recipient.now c.args.share.now)) (always_returns_same _ _ _ (λ a r f called. (search rules, search rules))))
