use Rattle.std.proofs.Common.{arith, ap, ◌∙◌}
use Rattle.share_book.specs.History.{pending}
use Rattle.share_book.proofs.Rests.{begun_rests, kept, others, settled}
use Rattle.hub_catalog.proofs.catalog_turns.begin_in.Goals as goal

pub returns-in-Err-clause-rests : goal.returns-in-Err-clause-rests
returns-in-Err-clause-rests c =
    let n = c.len.ensures.rooms in
    let r = c.reserve_catalog.ensures in
    kept _ _ r.raised r.logs r.edits r.others (omega arith) c.requires

pub begin-requires-clause-settled : goal.begin-requires-clause-settled
begin-requires-clause-settled c = ap pending c.reserve_catalog.ensures.raised.history ∙ settled _ c.requires

pub returns-then-begin-clause-rests : goal.returns-then-begin-clause-rests
returns-then-begin-clause-rests c =
    let n = c.len.ensures.rooms in
    let m = c.reserve_catalog.ensures.raised.count in
    begun_rests _ _ c.args.caller c.in-Ok.ensures.ready (omega arith) c.if-begin.ensures.begun.1 (c.begin.ensures.others (c.reserve_catalog.ensures.others (others _ 0 c.requires)))

pub returns-else-begin-clause-rests : goal.returns-else-begin-clause-rests
returns-else-begin-clause-rests c =
    let n = c.len.ensures.rooms in
    let r = c.reserve_catalog.ensures in
    rw c.if-begin.ensures.begun.1 (kept _ _ r.raised r.logs r.edits r.others (omega arith) c.requires)
