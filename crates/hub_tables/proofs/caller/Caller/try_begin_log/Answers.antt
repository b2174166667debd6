use Rattle.std.proofs.Common.{sym, ◌∙◌, subst}
use Rattle.hub_tables.specs.TableTurns.{IsLog}
use Rattle.hub_tables.proofs.TablePasses.{begins_log, begins_log_idle, is_log_later, log_opened_grown}
use Rattle.hub_tables.proofs.caller.Caller.try_begin_log.Goals as goal

pub begin_log_in-opened-requires-clause-there : goal.begin_log_in-opened-requires-clause-there
begin_log_in-opened-requires-clause-there g c = let a = c.take-turn.ensures in subst (IsLog c.args.log) (sym a.value.0) (is_log_later c.args.log _ _ a.seen c.requires.there)

pub returns-clause-same : goal.returns-clause-same
returns-clause-same g c = let a = c.take-turn.ensures in let b = c.give.ensures in
    begins_log_idle c.begin_log_in-opened.result c.args.pass.now c.take-turn.new.pass c.give.new.pass _ c.args.log _ _ c.begin_log_in-opened.ensures.opened a.value.0 (record { same = a.same; seen = a.seen; kept = a.mine }) (record { same = b.same; idle = b.idle; seen = b.seen; kept = b.mine })

pub returns-clause-begun : goal.returns-clause-begun
returns-clause-begun g c = let a = c.take-turn.ensures in let b = c.give.ensures in
    begins_log c.begin_log_in-opened.result c.args.pass.now c.take-turn.new.pass c.give.new.pass _ c.args.log _ _ c.requires.there.0 c.number-number.ensures c.begin_log_in-opened.ensures.opened a.value.0 (record { same = a.same; seen = a.seen; kept = a.mine }) (record { same = b.same; idle = b.idle; seen = b.seen; kept = b.mine })

pub give-requires-clause-grown : goal.give-requires-clause-grown
give-requires-clause-grown g c = let a = c.take-turn.ensures in
    log_opened_grown c.begin_log_in-opened.result c.take-turn.new.pass c.number-number.result c.args.log c.take-turn.result.value.past.history _ (c.number-number.ensures ∙ sym a.same.1) c.begin_log_in-opened.ensures.opened a.value.0
