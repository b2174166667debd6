use Rattle.share_catalog.specs.Entries.{pair_texts}
use Rattle.share_catalog.specs.TableNames.{texts_cmp}
use Rattle.share_catalog.proofs.SortedLemmas.{put_there}
use Rattle.share_catalog.proofs.sorted.put_pair.Goals as goal

pub returns : goal.returns
returns g c =
    rw (c.put.ensures, c.place_of_pair-place.ensures.place, c.as_str.ensures.value, c.as_str-2.ensures.value, c.deref.ensures.value)
    (put_there texts_cmp pair_texts c.args.items.now.items c.args.pair c.args.value)
