use Rattle.std.proofs.Common.{◌<◌, ◌≤◌, take, arith}
use Rattle.std.proofs.lemmas.Result.{err_from_is_err_and}
use Rattle.http_message.specs.Bodies.{unended, ReadsChunked, ReadsTrailers}
use Rattle.http_message.specs.Lines.{IsOpenLine}
use Rattle.http_wire.specs.Bodies.{IsNextChunk, IsContent, StopsContent}
use Rattle.http_wire.proofs.Chunks.{line_fits, line_open, line_bad, line_large, line_chunk, behind_line_trailers, behind_line_content, drew_behind}
use Rattle.http_wire.proofs.Streams.{awaits_weaken, awaits_used, drew_awaits}
use Rattle.http_wire.proofs.chunk.next_chunk.Goals as goal

pub returns-in_err-len-clause-read : goal.returns-in_err-len-clause-read
returns-in_err-len-clause-read g c =
    let p = err_from_is_err_and c.from_residual.result c.from_residual.ensures.1 in
    rw p.1 (drew_awaits g.S.Source.left (λ y. ReadsChunked c.args.room y unended) _ _ _ _ _ (awaits_weaken g.S.Source.left (λ y. ReadsChunked c.args.room y unended) IsOpenLine _ _ _ _ (line_open c.args.room) c.in_err-len.ensures.draws) tt)

pub returns-then-size-room-clause-read : goal.returns-then-size-room-clause-read
returns-then-size-room-clause-read g c =
    let told = rw c.in-Size.is at c.in_ok-len.ensures.told in
    drew_awaits g.S.Source.left (λ y. ReadsChunked c.args.room y unended) _ _ _ _ _ (awaits_weaken g.S.Source.left (λ y. ReadsChunked c.args.room y unended) IsOpenLine _ _ _ _ (line_open c.args.room) c.in_ok-len.ensures.draws) (λ ys. line_large c.args.room c.await_line.new.inbox.0 ys c.in-Size.len c.in-Size.size told.0 told.1 (omega (arith, c.if-size-room.true)))

pub returns-then-size-eq0-clause-read : goal.returns-then-size-eq0-clause-read
returns-then-size-eq0-clause-read g c =
    let told = rw c.in-Size.is at c.in_ok-len.ensures.told in
    let u = c.await_line.new.inbox.0 in
    let first = awaits_used g.S.Source.left (λ y. ReadsChunked c.args.room y unended) c.args.inbox.now c.await_line.new.inbox c.consume.new.self c.args.source.now c.await_line.new.source c.in-Size.len (awaits_weaken g.S.Source.left (λ y. ReadsChunked c.args.room y unended) IsOpenLine _ _ _ _ (line_open c.args.room) c.in_ok-len.ensures.draws) (line_fits u c.in-Size.len c.in-Size.size told.0 told.1) c.consume.ensures.bytes c.consume.ensures.place in
    drew_behind g.S.Source.left _ _ _ _ _ _ (take c.in-Size.len u) first.0 (λ _. ⊥) (IsNextChunk c.args.room c.args.body.now.items c.args.body.now.items) ReadsTrailers (ReadsChunked c.args.room) c.trailers.result first.1 (λ x no. absurd no)
    (behind_line_trailers c.args.room u c.in-Size.len c.in-Size.size told.0 told.1 (omega (arith, c.if-size-eq0.true))) c.trailers.ensures.read

pub returns-else-size-eq0-clause-read : goal.returns-else-size-eq0-clause-read
returns-else-size-eq0-clause-read g c =
    let told = rw c.in-Size.is at c.in_ok-len.ensures.told in
    let u = c.await_line.new.inbox.0 in
    let first = awaits_used g.S.Source.left (λ y. ReadsChunked c.args.room y unended) c.args.inbox.now c.await_line.new.inbox c.consume.new.self c.args.source.now c.await_line.new.source c.in-Size.len (awaits_weaken g.S.Source.left (λ y. ReadsChunked c.args.room y unended) IsOpenLine _ _ _ _ (line_open c.args.room) c.in_ok-len.ensures.draws) (line_fits u c.in-Size.len c.in-Size.size told.0 told.1) c.consume.ensures.bytes c.consume.ensures.place in
    let fits : c.in-Size.size ≤ c.args.room = omega (arith, c.if-size-room.false) in
    let some : 0 < c.in-Size.size = omega (arith, c.if-size-eq0.false) in
    drew_behind g.S.Source.left _ _ _ _ _ _ (take c.in-Size.len u) first.0 (IsContent c.in-Size.size c.args.body.now.items c.content.new.body.items) (IsNextChunk c.args.room c.args.body.now.items c.content.new.body.items) (StopsContent c.in-Size.size) (ReadsChunked c.args.room) c.content.result first.1
    (line_chunk c.args.room u c.in-Size.len c.in-Size.size told.0 c.args.body.now.items c.content.new.body.items told.1 fits some)
    (behind_line_content c.args.room u c.in-Size.len c.in-Size.size told.0 told.1 fits some) c.content.ensures.read

pub returns-in-Ended-clause-read : goal.returns-in-Ended-clause-read
returns-in-Ended-clause-read g c =
    let told = rw c.in-Ended.is at c.in_ok-len.ensures.told in
    drew_awaits g.S.Source.left (λ y. ReadsChunked c.args.room y unended) _ _ _ _ _ (awaits_weaken g.S.Source.left (λ y. ReadsChunked c.args.room y unended) IsOpenLine _ _ _ _ (line_open c.args.room) c.in_ok-len.ensures.draws) (told.0, line_open c.args.room c.await_line.new.inbox.0 told.1)

pub returns-in-Bad-clause-read : goal.returns-in-Bad-clause-read
returns-in-Bad-clause-read g c =
    let told = rw c.in-Bad.is at c.in_ok-len.ensures.told in
    drew_awaits g.S.Source.left (λ y. ReadsChunked c.args.room y unended) _ _ _ _ _ (awaits_weaken g.S.Source.left (λ y. ReadsChunked c.args.room y unended) IsOpenLine _ _ _ _ (line_open c.args.room) c.in_ok-len.ensures.draws) (λ ys. line_bad c.args.room c.await_line.new.inbox.0 ys told)
