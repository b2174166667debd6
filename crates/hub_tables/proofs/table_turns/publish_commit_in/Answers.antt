use Rattle.std.proofs.Common.{◌≤◌, ◌∙◌, get_or, List, length, arith, sym, subst}
use Rattle.share_book.specs.declared.entry.LogStart.{LogStart}
use Rattle.share_book.proofs.Rests.{others, settled}
use Rattle.hub_tables.proofs.TableRests.{found_leaves_on, has_begun_on, takes_unblocked}
use Rattle.hub_tables.proofs.table_turns.publish_commit_in.Goals as goal

pub commit-requires-clause-room : goal.commit-requires-clause-room
commit-requires-clause-room c =
    let n = c.len.ensures.rooms in
    let i = c.requires.there.1 in
    let r : 2 ≤ get_or c.args.book.now.past.rooms c.args.log 0 = (has_begun_on c.args.book.now c.args.log c.args.caller c.requires.there.0 c.requires.rests (omega arith) c.requires.begun).0 in
    omega arith

pub commit-requires-clause-spare : goal.commit-requires-clause-spare
commit-requires-clause-spare c =
    let n = c.len.ensures.rooms in
    let i = c.requires.there.1 in
    let r = (has_begun_on c.args.book.now c.args.log c.args.caller c.requires.there.0 c.requires.rests (omega arith) c.requires.begun).1 (takes_unblocked c.args.book.now.past.history c.args.log c.args.new.commit.value c.requires.takes.2) in
    omega arith

pub commit-requires-clause-settled : goal.commit-requires-clause-settled
commit-requires-clause-settled c = settled _ c.requires.rests

pub go_on_log-requires-clause-there : goal.go_on_log-requires-clause-there
go_on_log-requires-clause-there c =
    let n = c.len.ensures.rooms in
    let i = c.requires.there.1 in
    let two = (has_begun_on c.args.book.now c.args.log c.args.caller c.requires.there.0 c.requires.rests (omega arith) c.requires.begun).0 in
    let l = found_leaves_on c.args.book.now c.commit.new.self c.args.caller c.args.log _ two (omega arith) c.commit.ensures.committed in
    (c.requires.there.0, subst (λ (s : List LogStart). c.args.log ≤ length s) (sym l.starts) i)

pub go_on_log-requires-clause-others : goal.go_on_log-requires-clause-others
go_on_log-requires-clause-others c = c.commit.ensures.others (others _ c.args.log c.requires.rests)

pub go_on_log-requires-clause-settled : goal.go_on_log-requires-clause-settled
go_on_log-requires-clause-settled c =
    let n = c.len.ensures.rooms in
    let i = c.requires.there.1 in
    let two = (has_begun_on c.args.book.now c.args.log c.args.caller c.requires.there.0 c.requires.rests (omega arith) c.requires.begun).0 in
    (found_leaves_on c.args.book.now c.commit.new.self c.args.caller c.args.log _ two (omega arith) c.commit.ensures.committed).settled

pub go_on_log-requires-clause-begun : goal.go_on_log-requires-clause-begun
go_on_log-requires-clause-begun c =
    let n = c.len.ensures.rooms in
    let i = c.requires.there.1 in
    let two = (has_begun_on c.args.book.now c.args.log c.args.caller c.requires.there.0 c.requires.rests (omega arith) c.requires.begun).0 in
    (found_leaves_on c.args.book.now c.commit.new.self c.args.caller c.args.log _ two (omega arith) c.commit.ensures.committed).holder ∙ c.requires.begun

pub go_on_log-requires-clause-room : goal.go_on_log-requires-clause-room
go_on_log-requires-clause-room c =
    let n = c.len.ensures.rooms in
    let i = c.requires.there.1 in
    let two = (has_begun_on c.args.book.now c.args.log c.args.caller c.requires.there.0 c.requires.rests (omega arith) c.requires.begun).0 in
    (found_leaves_on c.args.book.now c.commit.new.self c.args.caller c.args.log _ two (omega arith) c.commit.ensures.committed).room
