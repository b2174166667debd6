use Rattle.std.proofs.Common.{◌≤◌, get_or, arith}
use Rattle.share_book.proofs.Rests.{aborted_rests, others, rests_on, room_to_end, settled}
use Rattle.hub_catalog.proofs.catalog_turns.abort_in.Goals as goal

pub abort-requires-clause-room : goal.abort-requires-clause-room
abort-requires-clause-room c =
    let n = c.len.ensures.rooms in
    let r : 3 ≤ get_or c.args.book.now.past.rooms 0 0 = (room_to_end c.args.book.now c.args.caller (rests_on c.args.book.now c.requires.rests 0 (omega arith)) c.requires.begun).0 in
    omega arith

pub abort-requires-clause-settled : goal.abort-requires-clause-settled
abort-requires-clause-settled c = settled _ c.requires.rests

pub returns-clause-rests : goal.returns-clause-rests
returns-clause-rests c = aborted_rests _ _ c.args.caller c.abort.ensures.added (c.abort.ensures.others (others _ 0 c.requires.rests))
