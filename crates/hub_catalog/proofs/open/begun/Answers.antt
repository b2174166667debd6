use Rattle.hub_catalog.proofs.Opening.{fresh_rests}
use Rattle.hub_catalog.proofs.open.begun.Goals as goal

pub begin_in-requires : goal.begin_in-requires
begin_in-requires c = fresh_rests c.in_ok-book.book c.in_ok-book.ensures
