use Rattle.std.proofs.Common.{◌≡◌, sym, subst}
use Rattle.std.specs.Prelude.{IfSome}
use Rattle.log_store.specs.Log.{log_in}
use Rattle.log_store.proofs.Growing.{looked_more}
use Rattle.log_store.proofs.log.load.Goals as goal

pub returns-in_err-block-clause-looked : goal.returns-in_err-block-clause-looked
returns-in_err-block-clause-looked g c = looked_more _ _ _ _ _ _ c.listed_versions.ensures.looked c.read_listed.ensures.looked

pub returns-clause-looked : goal.returns-clause-looked
returns-clause-looked g c = looked_more _ _ _ _ _ _ c.listed_versions.ensures.looked c.read_listed.ensures.looked

pub returns-clause-log : goal.returns-clause-log
returns-clause-log g c =
    (_, c.listed_versions.ensures.looked.grows, c.read_listed.ensures.looked.grows, subst (λ l. IfSome (g.W.Store.objects c.listed_versions.new.store) (λ os. l ≡ log_in c.args.location.now os)) (sym c.loaded.ensures.value) c.in_ok-block.ensures.log)
