use Rattle.share_catalog.specs.Entries.{pair_texts, texts}
use Rattle.share_catalog.specs.TableNames.{texts_cmp}
use Rattle.share_catalog.proofs.Orders.{texts_total}
use Rattle.share_catalog.proofs.SortedLemmas.{value_found}
use Rattle.share_catalog.proofs.held.Held.grant_state.Goals as goal

pub returns : goal.returns
returns c =
    rw (c.copied.ensures, c.value_at.ensures, c.place_of_pair.ensures.place, c.deref.ensures.value, c.deref-2.ensures.value)
    (value_found texts_cmp pair_texts texts_total c.args.self.now.grants.items (texts c.args.recipient.now c.args.share.now) c.requires.grants)
