use Rattle.std.proofs.Common.{◌∙◌, ◌-◌, ◌^◌, ◌++◌, ◌∷◌, [], List, length, ap, arith}
use Rattle.std.specs.Prelude.{min}
use Rattle.log_actions.specs.CommitTexts.{commit_text}
use Rattle.log_actions.specs.declared.actions.Action.{Action}
use Rattle.share_book.specs.BookView.{BookView}
use Rattle.share_book.specs.History.{entry, pending, table_on}
use Rattle.share_book.specs.declared.entry.Act.TheVariants.{Begin}
use Rattle.share_book.specs.declared.entry.Entry.{Entry}
use Rattle.share_world.proofs.Heads.{text_counted}
use Rattle.share_world.proofs.Turns.{begun, not_held, takes_begun, with_found}
use Rattle.share_world.proofs.log.commit_on.Goals as goal

pub reserve-requires-clause-table : goal.reserve-requires-clause-table
reserve-requires-clause-table c = c.requires.takes.0

pub begin-requires-clause-settled : goal.begin-requires-clause-settled
begin-requires-clause-settled c = ap pending c.reserve.ensures.raised.history ∙ c.requires.idle.settled

pub unreachable-requires : goal.unreachable-requires
unreachable-requires c = not_held c.args.book.now.past.history c.reserve.new.self.past.history c.args.log c.requires.idle c.reserve.ensures.raised.history c.if-begin.ensures.begun.0

pub commit-requires-clause-settled : goal.commit-requires-clause-settled
commit-requires-clause-settled c =
    let n = c.reserve.ensures.raised.count in
    let t = c.requires.there in
    (begun c.reserve.new.self c.begin.new.self c.args.log (omega arith) c.in_ok-reserve.ensures.ready.0 c.if-begin.ensures.begun.1).settled

pub commit-requires-clause-begun : goal.commit-requires-clause-begun
commit-requires-clause-begun c =
    let n = c.reserve.ensures.raised.count in
    let t = c.requires.there in
    (begun c.reserve.new.self c.begin.new.self c.args.log (omega arith) c.in_ok-reserve.ensures.ready.0 c.if-begin.ensures.begun.1).holder

pub commit-requires-clause-takes : goal.commit-requires-clause-takes
commit-requires-clause-takes c =
    rw c.in_ok-held.ensures (takes_begun c.args.book.now.past.history c.begin.new.self.past.history c.args.log c.args.commit.now.value
    (ap (λ (b : BookView). b.past.history) c.if-begin.ensures.begun.1 ∙ ap (λ (h : List Entry). h ++ entry 0 c.args.log Begin ∷ []) c.reserve.ensures.raised.history) c.requires.takes)

pub abort-requires-clause-settled : goal.abort-requires-clause-settled
abort-requires-clause-settled c =
    let n = c.reserve.ensures.raised.count in
    let t = c.requires.there in
    (with_found c.begin.new.self c.commit.new.self c.args.log c.in_ok-held.held.value (begun c.reserve.new.self c.begin.new.self c.args.log (omega arith) c.in_ok-reserve.ensures.ready.0 c.if-begin.ensures.begun.1) c.commit.ensures.committed).settled

pub abort-requires-clause-begun : goal.abort-requires-clause-begun
abort-requires-clause-begun c =
    let n = c.reserve.ensures.raised.count in
    let t = c.requires.there in
    (with_found c.begin.new.self c.commit.new.self c.args.log c.in_ok-held.held.value (begun c.reserve.new.self c.begin.new.self c.args.log (omega arith) c.in_ok-reserve.ensures.ready.0 c.if-begin.ensures.begun.1) c.commit.ensures.committed).holder

pub commit-requires-clause-bytes : goal.commit-requires-clause-bytes
commit-requires-clause-bytes c =
    rw c.in_ok-held.ensures (text_counted (table_on c.args.log c.args.book.now.past.history) c.args.commit.now.value c.text_len.result
    (c.text_len.ensures ∙ ap (λ (a : List Action). min (length (commit_text a)) (2 ^ 64 - 1)) c.deref.ensures) c.requires.takes.1)
