use Rattle.std.proofs.Common.{arith, ap, ◌∙◌}
use Rattle.share_book.specs.History.{pending}
use Rattle.share_book.proofs.Rests.{others, settled}
use Rattle.hub_tables.proofs.TableRests.{begun_rests_on, kept_on}
use Rattle.hub_tables.proofs.table_turns.begin_log_in.Goals as goal

pub returns-in-Err-clause-rests : goal.returns-in-Err-clause-rests
returns-in-Err-clause-rests c =
    let n = c.len.ensures.rooms in
    let i = c.requires.there.1 in
    let r = c.reserve.ensures in
    kept_on _ _ c.args.log c.requires.there.0 r.raised r.commits r.others (omega arith) c.requires.rests

pub begin-requires-clause-settled : goal.begin-requires-clause-settled
begin-requires-clause-settled c = ap pending c.reserve.ensures.raised.history ∙ settled _ c.requires.rests

pub returns-then-begin-clause-rests : goal.returns-then-begin-clause-rests
returns-then-begin-clause-rests c =
    let n = c.len.ensures.rooms in
    let i = c.requires.there.1 in
    let m = c.reserve.ensures.raised.count in
    begun_rests_on _ _ c.args.log c.args.caller c.requires.there.0 c.in-Ok.ensures.ready (omega arith) c.if-begin.ensures.begun.1 (c.begin.ensures.others (c.reserve.ensures.others (others _ c.args.log c.requires.rests)))

pub returns-else-begin-clause-rests : goal.returns-else-begin-clause-rests
returns-else-begin-clause-rests c =
    let n = c.len.ensures.rooms in
    let i = c.requires.there.1 in
    let r = c.reserve.ensures in
    rw c.if-begin.ensures.begun.1 (kept_on _ _ c.args.log c.requires.there.0 r.raised r.commits r.others (omega arith) c.requires.rests)
