use Rattle.std.proofs.Common.{[], Option, sym, ap, ◌∙◌, subst}
use Rattle.std.proofs.lemmas.List.{append-nil}
use Rattle.share_book.specs.Bases.{IsStateIn}
use Rattle.share_book.specs.BookView.{BookView}
use Rattle.share_book.specs.History.{table_on}
use Rattle.share_book.specs.Legal.{IsLegal, There}
use Rattle.share_book.specs.TableView.{TableLog}
use Rattle.hub_tables.specs.TableTurns.{IsLog}
use Rattle.hub_tables.proofs.Heads.{goes_none}
use Rattle.hub_tables.proofs.TablePasses.{goes_on, is_log_later, stands_on}
use Rattle.hub_tables.proofs.caller.Caller.keep_made.Goals as goal

pub keep_in-requires-clause-there : goal.keep_in-requires-clause-there
keep_in-requires-clause-there g c =
    let a = c.take-turn.ensures in
    subst (IsLog c.args.log) (sym a.value.0) (is_log_later c.args.log _ _ a.seen c.requires.there)

pub keep_in-requires-clause-state : goal.keep_in-requires-clause-state
keep_in-requires-clause-state g c =
    let a = c.take-turn.ensures in
    let s = stands_on c.args.log c.args.pass.now c.take-turn.new.pass (record { same = a.same; seen = a.seen; kept = a.mine }) (subst IsLegal a.value.0 c.len.ensures.legal) c.requires.there c.requires.begun in
    subst (λ (o : Option TableLog). There o (λ t. IsStateIn t.commits c.args.state.now)) (sym (ap (table_on c.args.log) a.value.0 ∙ s.table)) c.requires.state

pub give-requires-clause-grown : goal.give-requires-clause-grown
give-requires-clause-grown g c =
    let a = c.take-turn.ensures in
    ([], ap (λ (x : BookView). x.past.history) c.keep_in.ensures ∙ a.value.0 ∙ sym (append-nil _), tt)

pub returns-clause-goes : goal.returns-clause-goes
returns-clause-goes g c = let a = c.take-turn.ensures in let b = c.give.ensures in
    goes_on c.args.log c.args.pass.now c.take-turn.new.pass c.give.new.pass _ (record { same = a.same; seen = a.seen; kept = a.mine }) (record { same = b.same; idle = b.idle; seen = b.seen; kept = b.mine }) (subst IsLegal a.value.0 c.len.ensures.legal) c.requires.there c.requires.begun (ap (λ (x : BookView). x.past.history) c.keep_in.ensures ∙ a.value.0)

pub returns-then-is_empty-clause-goes : goal.returns-then-is_empty-clause-goes
returns-then-is_empty-clause-goes g c = goes_none c.args.pass.now c.args.log c.requires.begun
