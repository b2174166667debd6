use Rattle.share_catalog.specs.TableNames.{parts_of, texts_cmp}
use Rattle.share_catalog.proofs.SortedLemmas.{put_there}
use Rattle.share_catalog.proofs.sorted.put_table.Goals as goal

pub returns : goal.returns
returns g c =
    rw (c.put.ensures, c.place_of_table-place.ensures.place, c.deref.ensures.value)
    (put_there texts_cmp parts_of c.args.items.now.items c.args.table c.args.value)
