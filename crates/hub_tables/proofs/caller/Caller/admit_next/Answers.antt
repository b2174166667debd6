use Rattle.share_book.specs.History.{table_on}
use Rattle.share_book.specs.TableView.{TableLog}
use Rattle.commit_check.specs.Admission.{Answers, admitted}
use Rattle.share_book.proofs.Bookkeeping.{there_at, there_from}
use Rattle.hub_tables.specs.OfferLogs.{IsOfferLog}
use Rattle.hub_tables.proofs.TablePasses.{is_log_held}
use Rattle.hub_tables.proofs.caller.Caller.admit_next.Goals as goal

pub offer_log-requires-clause-there : goal.offer_log-requires-clause-there
offer_log-requires-clause-there g c = let h = c.requires.begun.1 in is_log_held c.args.pass.now c.args.attempt.now.log h.log h.holds

pub offer_log-requires-clause-begun : goal.offer_log-requires-clause-begun
offer_log-requires-clause-begun g c = let h = c.requires.begun.1 in h.holds.holder

pub states_of-requires : goal.states_of-requires
states_of-requires g c =
    let h = c.requires.begun.1 in
    let read = c.args.attempt.now.offer.now.read in
    record { of = (read, h.log.commits, there_at (table_on c.args.attempt.now.log c.args.pass.now.seen) h.log (λ (t : TableLog). IsOfferLog read t.commits c.in-Ok.found) h.holds.table c.in-Ok.ensures.offered) }

pub returns-clause-told : goal.returns-clause-told
returns-clause-told g c =
    let h = c.requires.begun.1 in
    let read = c.args.attempt.now.offer.now.read in
    let table = table_on c.args.attempt.now.log c.args.pass.now.seen in
    let is = there_at table h.log (λ (t : TableLog). IsOfferLog read t.commits c.in-Ok.found) h.holds.table c.in-Ok.ensures.offered in
    let states = c.in-Ok-states_of.ensures in
    there_from table h.log (λ (t : TableLog). Answers c.admission.result (admitted t.commits c.args.attempt.now.moment c.args.attempt.now.offer.now)) h.holds.table
    (c.admission.ensures h.log.commits is (states.at read h.log.commits is) (states.head read h.log.commits is))
