use Rattle.std.proofs.Common.{◌≡◌, ◌∷◌, [], None, subst}
use Rattle.log_actions.specs.declared.actions.Action.{Action}
use Rattle.std.proofs.Common.{List}
use Rattle.log_store.specs.Log.{cause_with}
use Rattle.hub_tables.specs.TableCalls.{GoesOn}
use Rattle.hub_tables.proofs.LogSteps.{holds_more, there_held}
use Rattle.hub_tables.proofs.caller.Caller.publish_next.Goals as goal

pub returns-in-Open-clause-published : goal.returns-in-Open-clause-published
returns-in-Open-clause-published g c =
    let x = c.requires.begun in
    let k = c.in-Kept.ensures x.log.commits x.head in
    let goes : GoesOn c.args.pass.now c.publish_commit.new.pass c.args.log (c.args.commit ∷ []) = subst (λ (a : List Action). GoesOn c.args.pass.now c.publish_commit.new.pass c.args.log (a ∷ [])) k.0 c.in-Open.ensures.found in
    (goes, holds_more c.args.pass.now c.publish_commit.new.pass c.args.log c.args.head.now c.take_next.new.head c.args.commit x goes k.3, there_held c.args.pass.now c.args.log c.args.head.now (λ log. cause_with log c.args.commit ≡ None) x k.4)
