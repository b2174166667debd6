use Rattle.std.proofs.Common.{Ok, Err, subst}
use Rattle.share_client.specs.Pieces.{PiecesAt}
use Rattle.share_client.specs.Targets.{target_in}
use Rattle.client_calls.proofs.call.fetch_pieces.Goals as goal

pub returns-in-Ok-clause-told : goal.returns-in-Ok-clause-told
returns-in-Ok-clause-told g c = λ old tells.
    let held = g.K.Sink.holds c.args.sink.now in
    let now = g.K.Sink.holds c.fetch_pieces.new.sink in
    let size = c.in-Ok.field-0 in
    let k = c.in-Ok.ensures.told old tells in (
      k.0,
      k.1,
      (
        size,
        subst (λ n. PiecesAt (target_in c.args.url.now) n held now (Ok size) old k.0) c.get.ensures.value
            (subst (λ url. PiecesAt (target_in url) c.get.result held now (Ok size) old k.0) c.as_str.ensures k.2),
      ),
    )

pub returns-in-Err-clause-told : goal.returns-in-Err-clause-told
returns-in-Err-clause-told g c = λ old tells.
    let held = g.K.Sink.holds c.args.sink.now in
    let now = g.K.Sink.holds c.fetch_pieces.new.sink in
    let e = c.in-Err.fault in
    let k = c.in-Err.ensures.told old tells in (
      k.0,
      k.1,
      subst (λ n. PiecesAt (target_in c.args.url.now) n held now (Err e) old k.0) c.get.ensures.value
          (subst (λ url. PiecesAt (target_in url) c.get.result held now (Err e) old k.0) c.as_str.ensures k.2),
    )
