use Rattle.std.proofs.Common.{inl, inr, refl, ap, ◌∙◌}
use Rattle.share_client.specs.Clients.{client_profile}
use Rattle.client_calls.specs.Calls.{ListsText}
use Rattle.client_calls.specs.Texts.{tables_text}
use Rattle.client_calls.proofs.Telling.{sent}
use Rattle.client_calls.proofs.call.list.Goals as goal

pub returns-in-Err-clause-told : goal.returns-in-Err-clause-told
returns-in-Err-clause-told g c = λ old tells. let k = c.in-Err.ensures.told old tells in (k.0, k.1, inl (refl, k.2))

pub returns-in-Ok-tables_text-clause-told : goal.returns-in-Ok-tables_text-clause-told
returns-in-Ok-tables_text-clause-told g c = λ old tells.
    let k = c.in-Ok.ensures.told old tells in
    let is = c.deref-in-Ok-tables_text.ensures.value ∙ c.in-Ok-tables_text.ensures ∙ ap tables_text c.deref.ensures.value in
    (k.0, k.1, sent (ListsText (client_profile c.args.client.now)) (g.K.Sink.holds c.args.sink.now) (g.K.Sink.holds c.send.new.sink) (g.K.Sink.faults c.args.sink.now) (g.K.Sink.faults c.send.new.sink) c.deref-in-Ok-tables_text.result.now c.send.result old k.0 c.send.ensures.sends (c.in-Ok.tables.items, is, k.2))

pub returns-clause-told : goal.returns-clause-told
returns-clause-told g c = λ old tells.
    let k = c.in-Ok.ensures.told old tells in
    (k.0, k.1, inr (tables_text c.in-Ok.tables.items, (c.in-Ok.tables.items, refl, k.2), inl (refl, refl)))
