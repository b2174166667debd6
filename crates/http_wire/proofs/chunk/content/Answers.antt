use Rattle.std.proofs.Common.{◌≡◌, ◌+◌, ◌<◌, [], ◌++◌, length, take, refl, ap, ◌∙◌, subst, arith, length-append}
use Rattle.std.proofs.lemmas.Result.{err_from_is_err_and}
use Rattle.http_message.specs.Bodies.{unended}
use Rattle.http_wire.specs.Bodies.{IsContentThere, StopsContent}
use Rattle.http_wire.proofs.Contents.{stop_short, content_room, content_used, content_ends}
use Rattle.http_wire.proofs.Streams.{awaits_none, draws_none, draws_weaken, drew_used}
use Rattle.http_wire.proofs.chunk.content.Goals as goal

pub returns-in_err-extend_from_slice-clause-read : goal.returns-in_err-extend_from_slice-clause-read
returns-in_err-extend_from_slice-clause-read g c =
    let p = err_from_is_err_and c.from_residual.result c.from_residual.ensures.1 in
    rw p.1 ([], [], draws_none g.S.Source.left (λ y. StopsContent c.args.size y unended) _ _ _ _ refl refl, tt)

pub consume-requires : goal.consume-requires
consume-requires g c =
    let there : IsContentThere c.args.size c.args.inbox.now.0 = subst (λ b. IsContentThere c.args.size b) c.bytes.ensures c.if-has_content.ensures in
    content_room c.args.size c.args.inbox.now.0 there

pub returns-then-has_content-clause-read : goal.returns-then-has_content-clause-read
returns-then-has_content-clause-read g c =
    let there : IsContentThere c.args.size c.args.inbox.now.0 = subst (λ b. IsContentThere c.args.size b) c.bytes.ensures c.if-has_content.ensures in
    let grown : c.extend_from_slice.new.self.items ≡ c.args.body.now.items ++ take c.args.size c.args.inbox.now.0 = c.in_ok-extend_from_slice.ensures.items ∙ ap (λ b. c.args.body.now.items ++ take c.args.size b) c.bytes-then-has_content.ensures in
    drew_used g.S.Source.left (λ y. StopsContent c.args.size y unended) c.args.inbox.now c.args.inbox.now c.consume.new.self c.args.source.now c.args.source.now (c.args.size + 2) _ (awaits_none g.S.Source.left (λ y. StopsContent c.args.size y unended) _ _ _ _ refl refl) (content_room c.args.size c.args.inbox.now.0 there) c.consume.ensures.bytes c.consume.ensures.place
    (content_used c.args.size c.args.body.now.items c.extend_from_slice.new.self.items c.args.inbox.now.0 there grown)

pub returns-in-Enough-clause-read : goal.returns-in-Enough-clause-read
returns-in-Enough-clause-read g c =
    let took = rw c.in-Enough.is at c.in_ok-take_bytes.ensures.took in
    content_ends g.S.Source.left c.args.size c.args.body.now.items c.take_bytes.new.body.items _ _ _ _ _ _ c.content_end.result took.0 took.1 took.3.1 took.3.0.grown took.2 c.content_end.ensures.read c.content_end.ensures.unlike

pub returns-in-Ended-clause-read : goal.returns-in-Ended-clause-read
returns-in-Ended-clause-read g c =
    let took = rw c.in-Ended.is at c.in_ok-take_bytes.ensures.took in
    let found = took.3.1 in (
      took.0,
      took.1,
      draws_weaken g.S.Source.left (λ y. StopsContent c.args.size y unended) (λ y. length y < c.args.size) _ _ _ _ _ _ (λ y short. stop_short c.args.size y (omega (arith, short))) took.2,
      (found.0, stop_short c.args.size (took.1 ++ c.take_bytes.new.inbox.0) (omega (arith, length-append took.1 c.take_bytes.new.inbox.0, ap length found.1, found.2))),
    )

pub returns-in_err-take_bytes-clause-read : goal.returns-in_err-take_bytes-clause-read
returns-in_err-take_bytes-clause-read g c =
    let p = err_from_is_err_and c.from_residual-in_err-take_bytes.result c.from_residual-in_err-take_bytes.ensures.1 in
    let took = c.in_err-take_bytes.ensures.took in
    rw p.1 (took.0, took.1, draws_weaken g.S.Source.left (λ y. StopsContent c.args.size y unended) (λ y. length y < c.args.size) _ _ _ _ _ _ (λ y short. stop_short c.args.size y (omega (arith, short))) took.2, tt)
