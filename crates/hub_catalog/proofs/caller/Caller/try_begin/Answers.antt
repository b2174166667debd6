use Rattle.hub_catalog.proofs.CatalogPasses.{begins, begins_idle}
use Rattle.hub_catalog.proofs.caller.Caller.try_begin.Goals as goal

pub returns-clause-same : goal.returns-clause-same
returns-clause-same g c = let a = c.take-turn.ensures in let b = c.give.ensures in
    begins_idle c.begin_in-opened.result c.args.pass.now c.take-turn.new.pass c.give.new.pass _ _ _ c.begin_in-opened.ensures.opened a.value.0 (record { same = a.same; seen = a.seen; kept = a.mine }) (record { same = b.same; idle = b.idle; seen = b.seen; kept = b.mine })

pub returns-clause-begun : goal.returns-clause-begun
returns-clause-begun g c = let a = c.take-turn.ensures in let b = c.give.ensures in
    begins c.begin_in-opened.result c.args.pass.now c.take-turn.new.pass c.give.new.pass _ _ _ c.number-number.ensures c.begin_in-opened.ensures.opened a.value.0 (record { same = a.same; seen = a.seen; kept = a.mine }) (record { same = b.same; idle = b.idle; seen = b.seen; kept = b.mine })
