use Rattle.share_catalog.specs.TableNames.{parts_of, texts_cmp}
use Rattle.share_catalog.proofs.Orders.{texts_total}
use Rattle.share_catalog.proofs.SortedLemmas.{value_found}
use Rattle.share_catalog.proofs.held.Held.table.Goals as goal

pub returns : goal.returns
returns c =
    rw (c.value_at.ensures, c.place_of_table.ensures.place, c.deref.ensures.value, c.deref-2.ensures.value)
    (value_found texts_cmp parts_of texts_total c.args.self.now.tables.items (parts_of c.args.table.now) c.requires.tables)
