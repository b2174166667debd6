use Rattle.std.proofs.Common.{Option, sym, ap, ◌∙◌, subst}
use Rattle.std.specs.Result.{IfOk}
use Rattle.share_book.specs.History.{table_on}
use Rattle.share_book.specs.Legal.{IsLegal, There}
use Rattle.share_book.specs.TableView.{TableLog}
use Rattle.hub_tables.specs.OfferLogs.{IsOfferLog}
use Rattle.hub_tables.specs.TableTurns.{IsLog}
use Rattle.hub_tables.proofs.TablePasses.{goes_on, is_log_later, stands_on}
use Rattle.hub_tables.proofs.caller.Caller.offer_log.Goals as goal

pub offer_log_in-found-requires : goal.offer_log_in-found-requires
offer_log_in-found-requires g c =
    let a = c.take-turn.ensures in
    subst (IsLog c.args.log) (sym a.value.0) (is_log_later c.args.log _ _ a.seen c.requires.there)

pub returns-clause-goes : goal.returns-clause-goes
returns-clause-goes g c = let a = c.take-turn.ensures in let b = c.give.ensures in
    goes_on c.args.log c.args.pass.now c.take-turn.new.pass c.give.new.pass _ (record { same = a.same; seen = a.seen; kept = a.mine }) (record { same = b.same; idle = b.idle; seen = b.seen; kept = b.mine }) (subst IsLegal a.value.0 c.len.ensures.legal) c.requires.there c.requires.begun a.value.0

pub returns-clause-offered : goal.returns-clause-offered
returns-clause-offered g c =
    let a = c.take-turn.ensures in
    let s = stands_on c.args.log c.args.pass.now c.take-turn.new.pass (record { same = a.same; seen = a.seen; kept = a.mine }) (subst IsLegal a.value.0 c.len.ensures.legal) c.requires.there c.requires.begun in
    subst (λ (o : Option TableLog). IfOk c.offer_log_in-found.result (λ v. There o (λ t. IsOfferLog c.args.offer.now.read t.commits v))) (ap (table_on c.args.log) a.value.0 ∙ s.table) c.offer_log_in-found.ensures
