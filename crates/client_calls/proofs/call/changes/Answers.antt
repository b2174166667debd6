use Rattle.std.proofs.Common.{inl, inr, refl, ap, ◌∙◌}
use Rattle.share_client.specs.Clients.{client_profile}
use Rattle.share_lines.specs.Printing.{body_text}
use Rattle.client_calls.specs.Calls.{ChangesText}
use Rattle.client_calls.proofs.Telling.{sent}
use Rattle.client_calls.proofs.call.changes.Goals as goal

pub returns-in-Err-clause-told : goal.returns-in-Err-clause-told
returns-in-Err-clause-told g c = λ old tells. let k = c.in-Err.ensures.told old tells in (k.0, k.1, inl (refl, k.2))

pub returns-in-Ok-changes_text-clause-told : goal.returns-in-Ok-changes_text-clause-told
returns-in-Ok-changes_text-clause-told g c = λ old tells.
    let k = c.in-Ok.ensures.told old tells in
    let is = c.deref-in-Ok-changes_text.ensures.value ∙ c.in-Ok-changes_text.ensures ∙ ap body_text c.deref.ensures.value in
    (k.0, k.1, sent (ChangesText (client_profile c.args.client.now) c.args.table.now c.args.from c.args.to) (g.K.Sink.holds c.args.sink.now) (g.K.Sink.holds c.send.new.sink) (g.K.Sink.faults c.args.sink.now) (g.K.Sink.faults c.send.new.sink) c.deref-in-Ok-changes_text.result.now c.send.result old k.0 c.send.ensures.sends (c.in-Ok.lines.items, is, k.2))

pub returns-clause-told : goal.returns-clause-told
returns-clause-told g c = λ old tells.
    let k = c.in-Ok.ensures.told old tells in
    (k.0, k.1, inr (body_text c.in-Ok.lines.items, (c.in-Ok.lines.items, refl, k.2), inl (refl, refl)))
