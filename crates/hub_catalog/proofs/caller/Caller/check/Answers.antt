use Rattle.std.proofs.Common.{sym, subst}
use Rattle.share_book.specs.Legal.{IsLegal}
use Rattle.hub_catalog.specs.CatalogTurns.{ChecksIn}
use Rattle.hub_catalog.proofs.CatalogPasses.{goes}
use Rattle.hub_catalog.proofs.caller.Caller.check.Goals as goal

pub returns-clause-checked : goal.returns-clause-checked
returns-clause-checked g c = let a = c.take-turn.ensures in let b = c.give.ensures in
    record {
      same = goes c.args.pass.now c.take-turn.new.pass c.give.new.pass _ (record { same = a.same; seen = a.seen; kept = a.mine }) (record { same = b.same; idle = b.idle; seen = b.seen; kept = b.mine }) (subst IsLegal a.value.0 c.len.ensures.legal) c.requires.begun a.value.0;
      told = subst (ChecksIn c.check_in-checked.result c.args.edit.now) (sym b.seen) c.check_in-checked.ensures;
    }
