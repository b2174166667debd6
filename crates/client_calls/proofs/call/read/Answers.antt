use Rattle.std.proofs.Common.{inl, inr, refl, ◌∙◌}
use Rattle.share_client.specs.Clients.{client_profile}
use Rattle.client_calls.specs.Calls.{ReadsText}
use Rattle.client_calls.specs.Texts.{read_text}
use Rattle.client_calls.proofs.Telling.{sent}
use Rattle.client_calls.proofs.call.read.Goals as goal

pub returns-in-Err-clause-told : goal.returns-in-Err-clause-told
returns-in-Err-clause-told g c = λ old tells. let k = c.in-Err.ensures.told old tells in (k.0, k.1, inl (refl, k.2))

pub returns-in-Ok-text-clause-told : goal.returns-in-Ok-text-clause-told
returns-in-Ok-text-clause-told g c = λ old tells.
    let k = c.in-Ok.ensures.told old tells in
    let is = c.deref.ensures.value ∙ c.in-Ok-text.ensures in
    (k.0, k.1, sent (ReadsText (client_profile c.args.client.now) c.args.table.now c.args.body.now) (g.K.Sink.holds c.args.sink.now) (g.K.Sink.holds c.send.new.sink) (g.K.Sink.faults c.args.sink.now) (g.K.Sink.faults c.send.new.sink) c.deref.result.now c.send.result old k.0 c.send.ensures.sends (c.in-Ok.read, is, k.2))

pub returns-in-Err-text-clause-told : goal.returns-in-Err-text-clause-told
returns-in-Err-text-clause-told g c = λ old tells.
    let k = c.in-Ok.ensures.told old tells in
    (k.0, k.1, inr (read_text c.in-Ok.read, (c.in-Ok.read, refl, k.2), inl (refl, refl)))
