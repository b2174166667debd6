use Rattle.std.proofs.Common.{◌≤◌, get_or, arith}
use Rattle.share_book.proofs.Rests.{others, settled}
use Rattle.hub_tables.proofs.TableRests.{has_begun_on, own_rests_on, takes_unblocked}
use Rattle.hub_tables.proofs.table_turns.own_commit_in.Goals as goal

pub commit-requires-clause-room : goal.commit-requires-clause-room
commit-requires-clause-room c =
    let n = c.len.ensures.rooms in
    let i = c.requires.there.1 in
    let r : 2 ≤ get_or c.args.book.now.past.rooms c.args.log 0 = (has_begun_on c.args.book.now c.args.log c.args.caller c.requires.there.0 c.requires.rests (omega arith) c.requires.begun).0 in
    omega arith

pub commit-requires-clause-spare : goal.commit-requires-clause-spare
commit-requires-clause-spare c =
    let n = c.len.ensures.rooms in
    let i = c.requires.there.1 in
    let r = (has_begun_on c.args.book.now c.args.log c.args.caller c.requires.there.0 c.requires.rests (omega arith) c.requires.begun).1 (takes_unblocked c.args.book.now.past.history c.args.log c.args.new.commit.value c.requires.takes.2) in
    omega arith

pub commit-requires-clause-settled : goal.commit-requires-clause-settled
commit-requires-clause-settled c = settled _ c.requires.rests

pub returns-clause-rests : goal.returns-clause-rests
returns-clause-rests c = own_rests_on _ _ c.args.log c.args.caller _ c.commit.ensures.committed (c.commit.ensures.others (others _ c.args.log c.requires.rests))
