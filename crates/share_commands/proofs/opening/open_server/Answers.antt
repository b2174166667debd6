use Rattle.std.proofs.Common.{◌≡◌, Some, subst, arith}
use Rattle.std.specs.Prelude.{IfSome}
use Rattle.std.proofs.lemmas.Result.{err_from_is_err_and}
use Rattle.log_store.proofs.Growing.{looked_more}
use Rattle.share_commands.specs.Configuration.{config_at}
use Rattle.hub_catalog.specs.Opens.{first_history}
use Rattle.share_commands.proofs.Serving.{configures, hub_reason, known_first, opens_for}
use Rattle.share_commands.proofs.opening.open_server.Goals as goal

pub returns-in_err-hub-clause-opened : goal.returns-in_err-hub-clause-opened
returns-in_err-hub-clause-opened g c =
    let p = err_from_is_err_and c.from_residual-in_err-hub.result c.from_residual-in_err-hub.ensures.1 in
    let found : IfSome (g.W.Store.objects c.stored_config.new.store) (λ os. Some c.in-Some.config ≡ config_at os) = subst (λ f. IfSome (g.W.Store.objects c.stored_config.new.store) (λ os. f ≡ config_at os)) c.in-Some.is c.in_ok-config.ensures.config in
    rw (p.1, p.2)
    (hub_reason c.in_err-hub.field-0.0 c.in-Some.config (g.W.Store.objects c.args.store.now) (g.W.Store.objects c.stored_config.new.store) (g.W.Store.objects c.open.new.store) (g.W.Store.faults c.args.store.now) (g.W.Store.faults c.stored_config.new.store) (g.W.Store.faults c.open.new.store)
    c.in_ok-config.ensures.looked.grows c.in_err-hub.ensures.looked.grows found c.in_ok-config.ensures.cause.later c.in_err-hub.ensures.cause c.in_err-hub.ensures.opened)

pub returns-in_err-hub-clause-looked : goal.returns-in_err-hub-clause-looked
returns-in_err-hub-clause-looked g c = looked_more _ _ _ _ _ _ c.in_ok-config.ensures.looked c.in_err-hub.ensures.looked

pub returns-clause-opened : goal.returns-clause-opened
returns-clause-opened g c =
    let found : IfSome (g.W.Store.objects c.stored_config.new.store) (λ os. Some c.in-Some.config ≡ config_at os) = subst (λ f. IfSome (g.W.Store.objects c.stored_config.new.store) (λ os. f ≡ config_at os)) c.in-Some.is c.in_ok-config.ensures.config in
    let first = c.in_ok-config.ensures.looked.grows in
    let last = c.in_ok-hub.ensures.looked.grows in
    let opened = c.in_ok-hub.ensures.opened.1 in
    let known = known_first c.in_ok-hub.hub (first_history opened.0) c.in_ok-hub.passes.items c.args.callers opened.1 (omega (arith, c.requires.callers.0, c.in_ok-hub.ensures.opened.0)) c.in_ok-hub.ensures.callers c.in_ok-hub.ensures.known in (
      (c.in-Some.config, c.of.ensures, configures (Some c.in-Some.config) (g.W.Store.objects c.args.store.now) (g.W.Store.objects c.stored_config.new.store) (g.W.Store.objects c.open.new.store) first last found),
      opens_for c.in_ok-hub.hub opened.0 c.in_ok-hub.passes.items c.args.callers (g.W.Store.objects c.args.store.now) (g.W.Store.objects c.stored_config.new.store) (g.W.Store.objects c.open.new.store)
          c.in_ok-hub.ensures.opened.0 c.in_ok-hub.ensures.callers opened.1 known first opened.2 opened.3,
    )

pub returns-clause-looked : goal.returns-clause-looked
returns-clause-looked g c = looked_more _ _ _ _ _ _ c.in_ok-config.ensures.looked c.in_ok-hub.ensures.looked
