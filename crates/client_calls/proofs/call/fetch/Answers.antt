use Rattle.std.proofs.Common.{Ok, Err, subst}
use Rattle.share_client.specs.Files.{Fetches}
use Rattle.client_calls.proofs.call.fetch.Goals as goal

pub returns-in-Ok-clause-told : goal.returns-in-Ok-clause-told
returns-in-Ok-clause-told g c = λ old tells.
    let k = c.in-Ok.ensures.told old tells in
    (k.0, k.1, (c.in-Ok.field-0, subst (λ url. Fetches url (g.K.Sink.holds c.args.sink.now) (g.K.Sink.holds c.fetch_file.new.sink) (Ok c.in-Ok.field-0) old k.0) c.as_str.ensures k.2))

pub returns-in-Err-clause-told : goal.returns-in-Err-clause-told
returns-in-Err-clause-told g c = λ old tells.
    let k = c.in-Err.ensures.told old tells in
    (k.0, k.1, subst (λ url. Fetches url (g.K.Sink.holds c.args.sink.now) (g.K.Sink.holds c.fetch_file.new.sink) (Err c.in-Err.fault) old k.0) c.as_str.ensures k.2)
