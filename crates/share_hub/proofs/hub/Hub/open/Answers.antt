use Rattle.std.proofs.Common.{◌<◌, length, sym, subst, arith}
use Rattle.turn_cell.specs.Entries.{AllBelow}
use Rattle.share_book.specs.History.{caller_of}
use Rattle.share_hub.proofs.Below.{first_below}
use Rattle.share_hub.proofs.Opened.{all_known}
use Rattle.share_hub.proofs.hub.Hub.open.Goals as goal

pub new-requires-clause-below : goal.new-requires-clause-below
new-requires-clause-below g c =
    let found = c.in-Ok.ensures.read in
    subst (AllBelow caller_of c.args.callers) (sym found.1) (first_below c.args.callers found.0 c.requires.callers.0)

pub returns-in-Ok-new-clause-known : goal.returns-in-Ok-new-clause-known
returns-in-Ok-new-clause-known g c =
    let some : 0 < length c.in-Ok-new.passes.items = omega (arith, c.requires.callers.0, c.in-Ok-new.ensures.passes.0) in
    all_known c.in-Ok-new.cell c.in-Ok.book.past.history c.in-Ok-new.passes.items c.index.result.now c.in-Ok-new.ensures.passes.1 some c.index.ensures c.known.ensures
