use Rattle.std.proofs.Common.{rules}
use Rattle.std.proofs.lemmas.Fn.{always_returns_same}
use Rattle.share_catalog.specs.TableNames.{parts_of, texts_cmp}
use Rattle.share_catalog.proofs.Orders.{texts_total}
use Rattle.share_catalog.proofs.SortedLemmas.{searched}
use Rattle.share_catalog.proofs.sorted.place_of_table.Goals as goal

pub returns-clause-place : goal.returns-clause-place
returns-clause-place g c =
    searched texts_cmp parts_of texts_total c.args.items.now (parts_of c.args.table.now) c.binary_search_by.result c.requires c.binary_search_by.ensures.bound
    (c.binary_search_by.ensures.position (λ x. texts_cmp (parts_of x.key) (parts_of c.args.table.now)) (always_returns_same _ _ _ (λ a r f called. (search rules, search rules))))
