use Rattle.std.proofs.Common.{length, take, ap, subst, arith}
use Rattle.std.proofs.lemmas.List.{length-take}
use Rattle.std.proofs.lemmas.Result.{err_from_is_err_and}
use Rattle.http_message.specs.Bodies.{unended, ReadsTrailers}
use Rattle.http_wire.specs.Bodies.{TellsTrailersText}
use Rattle.http_wire.specs.Parts.{IsTrailersOpen}
use Rattle.http_wire.proofs.Streams.{awaits_weaken, drew_awaits, drew_used}
use Rattle.http_wire.proofs.Trailers.{trailers_found, trailers_long, trailers_open}
use Rattle.http_wire.proofs.chunk.trailers.Goals as goal

pub returns-in_err-end-clause-read : goal.returns-in_err-end-clause-read
returns-in_err-end-clause-read g c =
    let p = err_from_is_err_and c.from_residual.result c.from_residual.ensures.1 in
    rw p.1 (drew_awaits g.S.Source.left (λ y. ReadsTrailers y unended) _ _ _ _ _ (awaits_weaken g.S.Source.left (λ y. ReadsTrailers y unended) IsTrailersOpen _ _ _ _ trailers_open c.in_err-end.ensures.draws) tt)

pub slice_bounds-read_trailers_text-end : goal.slice_bounds-read_trailers_text-end
slice_bounds-read_trailers_text-end g c =
    let told = rw c.in-At.is at c.in_ok-end.ensures.told in
    omega (arith, told.within, length-take 16384 c.await_trailers.new.inbox.0, ap length c.bytes.ensures, length-take c.in-At.end c.bytes.result.now)

pub consume-requires : goal.consume-requires
consume-requires g c =
    let told = rw c.in-At.is at c.in_ok-end.ensures.told in
    omega (arith, told.within, length-take 16384 c.await_trailers.new.inbox.0)

pub returns-in-At-clause-read : goal.returns-in-At-clause-read
returns-in-At-clause-read g c =
    let told = rw c.in-At.is at c.in_ok-end.ensures.told in
    let u = c.await_trailers.new.inbox.0 in
    let tells : TellsTrailersText (take c.in-At.end u) c.read_trailers_text-found.result = subst (λ b. TellsTrailersText (take c.in-At.end b) c.read_trailers_text-found.result) c.bytes.ensures c.read_trailers_text-found.ensures in
    drew_used g.S.Source.left (λ y. ReadsTrailers y unended) _ _ _ _ _ c.in-At.end _ (awaits_weaken g.S.Source.left (λ y. ReadsTrailers y unended) IsTrailersOpen _ _ _ _ trailers_open c.in_ok-end.ensures.draws)
    (omega (arith, told.within, length-take 16384 u)) c.consume.ensures.bytes c.consume.ensures.place (trailers_found u c.consume.new.self.0 _ c.in-At.end c.read_trailers_text-found.result told c.consume.ensures.bytes tells)

pub returns-in-TooLarge-clause-read : goal.returns-in-TooLarge-clause-read
returns-in-TooLarge-clause-read g c =
    let told = rw c.in-TooLarge.is at c.in_ok-end.ensures.told in
    drew_awaits g.S.Source.left (λ y. ReadsTrailers y unended) _ _ _ _ _ (awaits_weaken g.S.Source.left (λ y. ReadsTrailers y unended) IsTrailersOpen _ _ _ _ trailers_open c.in_ok-end.ensures.draws) (λ ys. trailers_long c.await_trailers.new.inbox.0 ys told.0 told.1)

pub returns-in-Ended-clause-read : goal.returns-in-Ended-clause-read
returns-in-Ended-clause-read g c =
    let told = rw c.in-Ended.is at c.in_ok-end.ensures.told in
    drew_awaits g.S.Source.left (λ y. ReadsTrailers y unended) _ _ _ _ _ (awaits_weaken g.S.Source.left (λ y. ReadsTrailers y unended) IsTrailersOpen _ _ _ _ trailers_open c.in_ok-end.ensures.draws) (told.0, trailers_open c.await_trailers.new.inbox.0 told.1)
