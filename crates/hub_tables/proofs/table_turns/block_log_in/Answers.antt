use Rattle.std.proofs.Common.{◌≤◌, ◌∙◌, get_or, arith, ap}
use Rattle.share_book.proofs.Rests.{others, settled}
use Rattle.hub_tables.proofs.TableRests.{aborted_rests_on, block_leaves, blocked_then, has_begun_on}
use Rattle.hub_tables.proofs.table_turns.block_log_in.Goals as goal

pub block-requires-clause-room : goal.block-requires-clause-room
block-requires-clause-room c =
    let n = c.len.ensures.rooms in
    let i = c.requires.there.1 in
    let r : 2 ≤ get_or c.args.book.now.past.rooms c.args.log 0 = (has_begun_on c.args.book.now c.args.log c.args.caller c.requires.there.0 c.requires.rests (omega arith) c.requires.begun).0 in
    omega arith

pub block-requires-clause-settled : goal.block-requires-clause-settled
block-requires-clause-settled c = settled _ c.requires.rests

pub abort-requires-clause-room : goal.abort-requires-clause-room
abort-requires-clause-room c =
    let n = c.len.ensures.rooms in
    let i = c.requires.there.1 in
    let two = (has_begun_on c.args.book.now c.args.log c.args.caller c.requires.there.0 c.requires.rests (omega arith) c.requires.begun).0 in
    (block_leaves c.args.book.now c.block.new.self c.args.caller c.args.log two (omega arith) c.block.ensures.blocked).room

pub abort-requires-clause-settled : goal.abort-requires-clause-settled
abort-requires-clause-settled c =
    let n = c.len.ensures.rooms in
    let i = c.requires.there.1 in
    let two = (has_begun_on c.args.book.now c.args.log c.args.caller c.requires.there.0 c.requires.rests (omega arith) c.requires.begun).0 in
    (block_leaves c.args.book.now c.block.new.self c.args.caller c.args.log two (omega arith) c.block.ensures.blocked).settled

pub abort-requires-clause-begun : goal.abort-requires-clause-begun
abort-requires-clause-begun c =
    let n = c.len.ensures.rooms in
    let i = c.requires.there.1 in
    let two = (has_begun_on c.args.book.now c.args.log c.args.caller c.requires.there.0 c.requires.rests (omega arith) c.requires.begun).0 in
    (block_leaves c.args.book.now c.block.new.self c.args.caller c.args.log two (omega arith) c.block.ensures.blocked).holder ∙ c.requires.begun

pub returns-clause-rests : goal.returns-clause-rests
returns-clause-rests c = aborted_rests_on _ _ c.args.log c.args.caller c.abort.ensures.added (c.abort.ensures.others (c.block.ensures.others (others _ c.args.log c.requires.rests)))

pub returns-clause-blocked : goal.returns-clause-blocked
returns-clause-blocked c = blocked_then c.args.book.now c.block.new.self _ c.args.caller c.args.log c.block.ensures.blocked (ap (λ b. b.past.history) c.abort.ensures.added)
