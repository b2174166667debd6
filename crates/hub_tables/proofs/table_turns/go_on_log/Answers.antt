use Rattle.std.proofs.Common.{◌∙◌, ap, arith}
use Rattle.share_book.specs.History.{pending}
use Rattle.hub_tables.proofs.TableRests.{aborted_rests_on, ready_rests_on}
use Rattle.hub_tables.proofs.table_turns.go_on_log.Goals as goal

pub returns-in-Ok-clause-rests : goal.returns-in-Ok-clause-rests
returns-in-Ok-clause-rests c =
    let r = c.reserve.ensures in
    let four = c.in-Ok.ensures.ready.0 in
    ready_rests_on _ c.args.log c.requires.there.0 (omega arith) c.in-Ok.ensures.ready.1 (ap pending r.raised.history ∙ c.requires.settled) (r.others c.requires.others)

pub returns-in-Err-clause-rests : goal.returns-in-Err-clause-rests
returns-in-Err-clause-rests c = let r = c.reserve.ensures in aborted_rests_on _ _ c.args.log c.args.caller c.abort.ensures.added (c.abort.ensures.others (r.others c.requires.others))
