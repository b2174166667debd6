use Rattle.std.proofs.Common.{sym, subst}
use Rattle.share_client.specs.Clients.{client_profile}
use Rattle.share_client.specs.Sides.{Known}
use Rattle.client_calls.specs.Calls.{Performs}
use Rattle.client_calls.proofs.call.perform.Goals as goal

pub returns-in-Tables-clause-told : goal.returns-in-Tables-clause-told
returns-in-Tables-clause-told g c =
    subst (λ call. Known g.L.Link.coming g.L.Link.closed c.args.link.now c.list.new.link (Performs (client_profile c.args.client.now) call (g.K.Sink.holds c.args.sink.now) (g.K.Sink.holds c.list.new.sink) c.list.result))
    (sym c.in-Tables.is) c.list.ensures.told

pub returns-in-Read-clause-told : goal.returns-in-Read-clause-told
returns-in-Read-clause-told g c =
    subst (λ call. Known g.L.Link.coming g.L.Link.closed c.args.link.now c.read.new.link (Performs (client_profile c.args.client.now) call (g.K.Sink.holds c.args.sink.now) (g.K.Sink.holds c.read.new.sink) c.read.result))
    (sym c.in-Read.is) c.read.ensures.told

pub returns-in-Changes-clause-told : goal.returns-in-Changes-clause-told
returns-in-Changes-clause-told g c =
    subst (λ call. Known g.L.Link.coming g.L.Link.closed c.args.link.now c.changes.new.link (Performs (client_profile c.args.client.now) call (g.K.Sink.holds c.args.sink.now) (g.K.Sink.holds c.changes.new.sink) c.changes.result))
    (sym c.in-Changes.is) c.changes.ensures.told

pub returns-in-Fetch-clause-told : goal.returns-in-Fetch-clause-told
returns-in-Fetch-clause-told g c =
    subst (λ call. Known g.L.Link.coming g.L.Link.closed c.args.link.now c.fetch.new.link (Performs (client_profile c.args.client.now) call (g.K.Sink.holds c.args.sink.now) (g.K.Sink.holds c.fetch.new.sink) c.fetch.result))
    (sym c.in-Fetch.is) c.fetch.ensures.told

pub returns-in-FetchPieces-clause-told : goal.returns-in-FetchPieces-clause-told
returns-in-FetchPieces-clause-told g c =
    subst (λ call. Known g.L.Link.coming g.L.Link.closed c.args.link.now c.fetch_pieces.new.link (Performs (client_profile c.args.client.now) call (g.K.Sink.holds c.args.sink.now) (g.K.Sink.holds c.fetch_pieces.new.sink) c.fetch_pieces.result))
    (sym c.in-FetchPieces.is) c.fetch_pieces.ensures.told
