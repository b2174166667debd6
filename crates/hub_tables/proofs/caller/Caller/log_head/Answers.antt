use Rattle.std.proofs.Common.{◌≡◌, Option, Some, Ok, sym, ap, ◌∙◌, subst}
use Rattle.log_replay.specs.State.{State, state_of}
use Rattle.share_book.specs.Bases.{IsStateIn, MakesHead}
use Rattle.share_book.specs.History.{table_on}
use Rattle.share_book.specs.Legal.{There}
use Rattle.share_book.specs.TableView.{TableLog}
use Rattle.share_book.specs.declared.replay.Replay.{Replay}
use Rattle.share_book.proofs.Bookkeeping.{there_from}
use Rattle.share_book.proofs.States.{head_stands}
use Rattle.hub_tables.proofs.CommitSteps.{same_table}
use Rattle.hub_tables.proofs.Heads.{goes_again, head_held, makes_there}
use Rattle.hub_tables.proofs.TablePasses.{is_log_held}
use Rattle.hub_tables.proofs.caller.Caller.log_head.Goals as goal

pub made-requires-clause-of : goal.made-requires-clause-of
made-requires-clause-of g c =
    let o = c.requires.opened in
    let m : MakesHead o.log.commits (Some c.in-Some.replay) = makes_there c.args.pass.now c.args.log c.args.state o (Some c.in-Some.replay)
    (subst (λ (r : Option Replay). There (table_on c.args.log c.args.pass.now.seen) (λ t. MakesHead t.commits r)) c.in-Some.is c.in_ok-replay.ensures.makes) in
    (o.log.commits, o.kept.0, m.0, m.1)

pub keep_made-requires-clause-there : goal.keep_made-requires-clause-there
keep_made-requires-clause-there g c =
    let o = c.requires.opened in
    let goes = c.log_replay.ensures.goes in
    is_log_held c.log_replay.new.pass c.args.log o.log (record { log = o.holds.log; holder = goes.holder; table = same_table c.args.pass.now c.log_replay.new.pass c.args.log goes ∙ o.holds.table })

pub keep_made-requires-clause-state : goal.keep_made-requires-clause-state
keep_made-requires-clause-state g c =
    let o = c.requires.opened in
    let goes = c.log_replay.ensures.goes in
    let m : MakesHead o.log.commits (Some c.in-Some.replay) = makes_there c.args.pass.now c.args.log c.args.state o (Some c.in-Some.replay)
    (subst (λ (r : Option Replay). There (table_on c.args.log c.args.pass.now.seen) (λ t. MakesHead t.commits r)) c.in-Some.is c.in_ok-replay.ensures.makes) in
    there_from (table_on c.args.log c.log_replay.new.pass.seen) o.log (λ (t : TableLog). IsStateIn t.commits c.in_ok-head.head) (same_table c.args.pass.now c.log_replay.new.pass c.args.log goes ∙ o.holds.table)
    (head_stands o.log.commits c.in_ok-head.head (c.in_ok-head.ensures o.log.commits o.kept.0 m.1))

pub returns-clause-goes : goal.returns-clause-goes
returns-clause-goes g c = goes_again c.args.pass.now c.log_replay.new.pass c.keep_made.new.pass c.args.log c.log_replay.ensures.goes c.keep_made.ensures.goes

pub returns-clause-head : goal.returns-clause-head
returns-clause-head g c =
    let o = c.requires.opened in
    let m : MakesHead o.log.commits (Some c.in-Some.replay) = makes_there c.args.pass.now c.args.log c.args.state o (Some c.in-Some.replay)
    (subst (λ (r : Option Replay). There (table_on c.args.log c.args.pass.now.seen) (λ t. MakesHead t.commits r)) c.in-Some.is c.in_ok-replay.ensures.makes) in
    let made : state_of o.log.commits ≡ Ok c.in_ok-head.head = c.in_ok-head.ensures o.log.commits o.kept.0 m.1 in
    let read : state_of o.log.commits ≡ Ok c.get.result.now = made ∙ ap (λ (s : State). Ok s) (sym c.get.ensures) in
    head_held c.args.pass.now c.keep_made.new.pass c.args.log c.args.state c.in_ok-support.support o c.requires.free
    (goes_again c.args.pass.now c.log_replay.new.pass c.keep_made.new.pass c.args.log c.log_replay.ensures.goes c.keep_made.ensures.goes) (c.in_ok-support.ensures o.log.commits read)
