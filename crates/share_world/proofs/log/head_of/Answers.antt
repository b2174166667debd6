use Rattle.std.proofs.Common.{Option, Some, sym, subst}
use Rattle.log_replay.specs.State.{State}
use Rattle.share_book.specs.Bases.{IsStateIn, MakesHead}
use Rattle.share_book.specs.History.{table_on}
use Rattle.share_book.specs.Legal.{There}
use Rattle.share_book.specs.declared.replay.Replay.{Replay}
use Rattle.share_world.proofs.Heads.{head_is, head_kept, replay_of}
use Rattle.share_world.proofs.log.head_of.Goals as goal

pub made-requires-clause-of : goal.made-requires-clause-of
made-requires-clause-of c =
    let o = table_on c.args.log c.args.book.now.past.history in
    replay_of o c.state.result c.in-Some.replay c.state.ensures (subst (λ (r : Option Replay). There o (λ t. MakesHead t.commits r)) c.in-Some.is c.in_ok-replay.ensures.makes)

pub keep_state-requires-clause-state : goal.keep_state-requires-clause-state
keep_state-requires-clause-state c =
    let o = table_on c.args.log c.args.book.now.past.history in
    let makes : There o (λ t. MakesHead t.commits (Some c.in-Some.replay)) = subst (λ (r : Option Replay). There o (λ t. MakesHead t.commits r)) c.in-Some.is c.in_ok-replay.ensures.makes in
    subst (λ (s : State). There o (λ t. IsStateIn t.commits s)) (sym c.in_ok-share.ensures) (head_kept o c.state.result c.in-Some.replay c.in_ok-head.head c.state.ensures makes c.in_ok-head.ensures)

pub returns-clause-head : goal.returns-clause-head
returns-clause-head c =
    let o = table_on c.args.log c.args.book.now.past.history in
    let makes : There o (λ t. MakesHead t.commits (Some c.in-Some.replay)) = subst (λ (r : Option Replay). There o (λ t. MakesHead t.commits r)) c.in-Some.is c.in_ok-replay.ensures.makes in
    head_is o c.state.result c.in-Some.replay c.in_ok-head.head c.state.ensures makes c.in_ok-head.ensures
