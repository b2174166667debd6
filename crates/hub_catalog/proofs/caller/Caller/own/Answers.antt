use Rattle.std.proofs.Common.{[], refl, arith}
use Rattle.hub_catalog.proofs.Rounding.{own_again, own_done}
use Rattle.hub_catalog.proofs.Storing.{round_after}
use Rattle.hub_catalog.proofs.caller.Caller.own.Goals as goal

pub returns-in-Done-clause-round : goal.returns-in-Done-clause-round
returns-in-Done-clause-round g c =
    own_done c.args.next.now.edit.now c.args.load.now c.args.next.now.number _ _ c.args.pass.now c.put_own.new.pass c.put_own.ensures.same.number c.requires.begun.count c.in-Done.ensures.store.grows c.in-Done.ensures.tried

pub returns-in-Exists-clause-round : goal.returns-in-Exists-clause-round
returns-in-Exists-clause-round g c before h w =
    own_again c.again.result c.args.next.now.edit.now c.args.next.now.number _ _ _ c.args.pass.now c.put_own.new.pass c.again.new.pass c.in-Exists.ensures.tried c.in-Exists.ensures.store.0.grows c.again.ensures.round before h

pub returns-in-StoreFault-clause-round : goal.returns-in-StoreFault-clause-round
returns-in-StoreFault-clause-round g c before h w = ([], c.in-StoreFault.ensures.tried, tt, refl)

pub returns-in-NoMemory-clause-round : goal.returns-in-NoMemory-clause-round
returns-in-NoMemory-clause-round g c before h w = ([], c.in-NoMemory.ensures.tried, tt, omega arith)

pub returns-in-Exists-clause-store : goal.returns-in-Exists-clause-store
returns-in-Exists-clause-store g c = round_after c.again.result c.args.next.now.edit.now c.args.next.now.number _ _ _ _ _ _ c.again.new.pass c.in-Exists.ensures.store.0 c.again.ensures.store
