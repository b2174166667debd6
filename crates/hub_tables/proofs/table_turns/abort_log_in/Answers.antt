use Rattle.std.proofs.Common.{◌≤◌, get_or, arith}
use Rattle.share_book.proofs.Rests.{others, settled}
use Rattle.hub_tables.proofs.TableRests.{aborted_rests_on, has_begun_on}
use Rattle.hub_tables.proofs.table_turns.abort_log_in.Goals as goal

pub abort-requires-clause-room : goal.abort-requires-clause-room
abort-requires-clause-room c =
    let n = c.len.ensures.rooms in
    let i = c.requires.there.1 in
    let r : 2 ≤ get_or c.args.book.now.past.rooms c.args.log 0 = (has_begun_on c.args.book.now c.args.log c.args.caller c.requires.there.0 c.requires.rests (omega arith) c.requires.begun).0 in
    omega arith

pub abort-requires-clause-settled : goal.abort-requires-clause-settled
abort-requires-clause-settled c = settled _ c.requires.rests

pub returns-clause-rests : goal.returns-clause-rests
returns-clause-rests c = aborted_rests_on _ _ c.args.log c.args.caller c.abort.ensures.added (c.abort.ensures.others (others _ c.args.log c.requires.rests))
