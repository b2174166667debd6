use Rattle.std.proofs.Common.{◌≡◌, ◌≢◌, get_or, subst, arith}
use Rattle.std.proofs.lemmas.Result.{err_from_is_err_and}
use Rattle.http_message.specs.Bodies.{unended}
use Rattle.http_wire.specs.Bodies.{StopsContent}
use Rattle.http_wire.specs.Fills.{Awaits}
use Rattle.http_wire.specs.Parts.{IsFewer}
use Rattle.http_wire.proofs.Contents.{stop_short, stop_cr, no_cr_more, no_lf_more, crlf_front, still_front}
use Rattle.http_wire.proofs.Streams.{awaits_then, awaits_weaken, awaits_more, drew_awaits, drew_used}
use Rattle.http_wire.proofs.chunk.content_end.Goals as goal

pub returns-in_err-await_bytes-clause-read : goal.returns-in_err-await_bytes-clause-read
returns-in_err-await_bytes-clause-read g c =
    let p = err_from_is_err_and c.from_residual.result c.from_residual.ensures.1 in
    rw p.1 (drew_awaits g.S.Source.left (λ y. StopsContent 0 y unended) _ _ _ _ _ (awaits_weaken g.S.Source.left (λ y. StopsContent 0 y unended) (IsFewer 1 c.args.inbox.now.0) _ _ _ _ (λ y few. stop_short 0 y (omega (arith, few.2))) c.in_err-await_bytes.ensures.draws) tt)

pub returns-in-Ended-clause-read : goal.returns-in-Ended-clause-read
returns-in-Ended-clause-read g c =
    let told = rw c.in-Ended.is at c.in_ok-await_bytes.ensures.told in
    drew_awaits g.S.Source.left (λ y. StopsContent 0 y unended) _ _ _ _ _ (awaits_weaken g.S.Source.left (λ y. StopsContent 0 y unended) (IsFewer 1 c.args.inbox.now.0) _ _ _ _ (λ y few. stop_short 0 y (omega (arith, few.2))) c.in_ok-await_bytes.ensures.draws) (told.0, stop_short 0 c.await_bytes.new.inbox.0 (omega (arith, told.1)))

pub returns-then-bytes-ne13-clause-read : goal.returns-then-bytes-ne13-clause-read
returns-then-bytes-ne13-clause-read g c =
    let told = rw c.in-Enough.is at c.in_ok-await_bytes.ensures.told in
    let other : get_or c.await_bytes.new.inbox.0 0 0 ≢ 13 = subst (λ b. get_or b 0 0 ≢ 13) c.bytes.ensures c.if-bytes-ne13.true in
    drew_awaits g.S.Source.left (λ y. StopsContent 0 y unended) _ _ _ _ _ (awaits_weaken g.S.Source.left (λ y. StopsContent 0 y unended) (IsFewer 1 c.args.inbox.now.0) _ _ _ _ (λ y few. stop_short 0 y (omega (arith, few.2))) c.in_ok-await_bytes.ensures.draws) (λ ys. no_cr_more c.await_bytes.new.inbox.0 ys (omega (arith, told)) other)

pub returns-in_err-await_bytes-2-clause-read : goal.returns-in_err-await_bytes-2-clause-read
returns-in_err-await_bytes-2-clause-read g c =
    let told = rw c.in-Enough.is at c.in_ok-await_bytes.ensures.told in
    let cr : get_or c.await_bytes.new.inbox.0 0 0 ≡ 13 = subst (λ b. get_or b 0 0 ≡ 13) c.bytes.ensures c.if-bytes-ne13.false in
    let first = awaits_weaken g.S.Source.left (λ y. StopsContent 0 y unended) (IsFewer 1 c.args.inbox.now.0) _ _ _ _ (λ y few. stop_short 0 y (omega (arith, few.2))) c.in_ok-await_bytes.ensures.draws in
    let both : Awaits g.S.Source.left (IsFewer 2 c.await_bytes.new.inbox.0) c.await_bytes.new.inbox c.await_bytes-2.new.inbox c.await_bytes.new.source c.await_bytes-2.new.source → Awaits g.S.Source.left (λ y. StopsContent 0 y unended) c.args.inbox.now c.await_bytes-2.new.inbox c.args.source.now c.await_bytes-2.new.source
    = λ second. awaits_then g.S.Source.left (λ y. StopsContent 0 y unended) (IsFewer 2 c.await_bytes.new.inbox.0) _ _ _ _ _ _ first (λ y few. stop_cr y few.2 (λ some. still_front c.await_bytes.new.inbox.0 y few.0 few.1 (omega (arith, told)) cr)) second in
    let p = err_from_is_err_and c.from_residual-in_err-await_bytes-2.result c.from_residual-in_err-await_bytes-2.ensures.1 in
    rw p.1 (drew_awaits g.S.Source.left (λ y. StopsContent 0 y unended) _ _ _ _ _ (both c.in_err-await_bytes-2.ensures.draws) tt)

pub returns-in-Ended-2-clause-read : goal.returns-in-Ended-2-clause-read
returns-in-Ended-2-clause-read g c =
    let told = rw c.in-Enough.is at c.in_ok-await_bytes.ensures.told in
    let cr : get_or c.await_bytes.new.inbox.0 0 0 ≡ 13 = subst (λ b. get_or b 0 0 ≡ 13) c.bytes.ensures c.if-bytes-ne13.false in
    let first = awaits_weaken g.S.Source.left (λ y. StopsContent 0 y unended) (IsFewer 1 c.args.inbox.now.0) _ _ _ _ (λ y few. stop_short 0 y (omega (arith, few.2))) c.in_ok-await_bytes.ensures.draws in
    let both : Awaits g.S.Source.left (IsFewer 2 c.await_bytes.new.inbox.0) c.await_bytes.new.inbox c.await_bytes-2.new.inbox c.await_bytes.new.source c.await_bytes-2.new.source → Awaits g.S.Source.left (λ y. StopsContent 0 y unended) c.args.inbox.now c.await_bytes-2.new.inbox c.args.source.now c.await_bytes-2.new.source
    = λ second. awaits_then g.S.Source.left (λ y. StopsContent 0 y unended) (IsFewer 2 c.await_bytes.new.inbox.0) _ _ _ _ _ _ first (λ y few. stop_cr y few.2 (λ some. still_front c.await_bytes.new.inbox.0 y few.0 few.1 (omega (arith, told)) cr)) second in
    let told2 = rw c.in-Ended-2.is at c.in_ok-await_bytes-2.ensures.told in
    let more = awaits_more g.S.Source.left _ _ _ _ _ c.in_ok-await_bytes-2.ensures.draws in
    drew_awaits g.S.Source.left (λ y. StopsContent 0 y unended) _ _ _ _ _ (both c.in_ok-await_bytes-2.ensures.draws) (told2.0, stop_cr c.await_bytes-2.new.inbox.0 told2.1 (λ some. still_front c.await_bytes.new.inbox.0 c.await_bytes-2.new.inbox.0 more.0 more.1 (omega (arith, told)) cr))

pub returns-then-bytes-ne10-clause-read : goal.returns-then-bytes-ne10-clause-read
returns-then-bytes-ne10-clause-read g c =
    let told = rw c.in-Enough.is at c.in_ok-await_bytes.ensures.told in
    let cr : get_or c.await_bytes.new.inbox.0 0 0 ≡ 13 = subst (λ b. get_or b 0 0 ≡ 13) c.bytes.ensures c.if-bytes-ne13.false in
    let first = awaits_weaken g.S.Source.left (λ y. StopsContent 0 y unended) (IsFewer 1 c.args.inbox.now.0) _ _ _ _ (λ y few. stop_short 0 y (omega (arith, few.2))) c.in_ok-await_bytes.ensures.draws in
    let both : Awaits g.S.Source.left (IsFewer 2 c.await_bytes.new.inbox.0) c.await_bytes.new.inbox c.await_bytes-2.new.inbox c.await_bytes.new.source c.await_bytes-2.new.source → Awaits g.S.Source.left (λ y. StopsContent 0 y unended) c.args.inbox.now c.await_bytes-2.new.inbox c.args.source.now c.await_bytes-2.new.source
    = λ second. awaits_then g.S.Source.left (λ y. StopsContent 0 y unended) (IsFewer 2 c.await_bytes.new.inbox.0) _ _ _ _ _ _ first (λ y few. stop_cr y few.2 (λ some. still_front c.await_bytes.new.inbox.0 y few.0 few.1 (omega (arith, told)) cr)) second in
    let told2 = rw c.in-Enough-2.is at c.in_ok-await_bytes-2.ensures.told in
    let more = awaits_more g.S.Source.left _ _ _ _ _ c.in_ok-await_bytes-2.ensures.draws in
    let other : get_or c.await_bytes-2.new.inbox.0 1 0 ≢ 10 = subst (λ b. get_or b 1 0 ≢ 10) c.bytes-2.ensures c.if-bytes-ne10.true in
    drew_awaits g.S.Source.left (λ y. StopsContent 0 y unended) _ _ _ _ _ (both c.in_ok-await_bytes-2.ensures.draws) (λ ys. no_lf_more c.await_bytes-2.new.inbox.0 ys told2 (still_front c.await_bytes.new.inbox.0 c.await_bytes-2.new.inbox.0 more.0 more.1 (omega (arith, told)) cr) other)

pub returns-clause-read : goal.returns-clause-read
returns-clause-read g c =
    let told = rw c.in-Enough.is at c.in_ok-await_bytes.ensures.told in
    let cr : get_or c.await_bytes.new.inbox.0 0 0 ≡ 13 = subst (λ b. get_or b 0 0 ≡ 13) c.bytes.ensures c.if-bytes-ne13.false in
    let first = awaits_weaken g.S.Source.left (λ y. StopsContent 0 y unended) (IsFewer 1 c.args.inbox.now.0) _ _ _ _ (λ y few. stop_short 0 y (omega (arith, few.2))) c.in_ok-await_bytes.ensures.draws in
    let both : Awaits g.S.Source.left (IsFewer 2 c.await_bytes.new.inbox.0) c.await_bytes.new.inbox c.await_bytes-2.new.inbox c.await_bytes.new.source c.await_bytes-2.new.source → Awaits g.S.Source.left (λ y. StopsContent 0 y unended) c.args.inbox.now c.await_bytes-2.new.inbox c.args.source.now c.await_bytes-2.new.source
    = λ second. awaits_then g.S.Source.left (λ y. StopsContent 0 y unended) (IsFewer 2 c.await_bytes.new.inbox.0) _ _ _ _ _ _ first (λ y few. stop_cr y few.2 (λ some. still_front c.await_bytes.new.inbox.0 y few.0 few.1 (omega (arith, told)) cr)) second in
    let told2 = rw c.in-Enough-2.is at c.in_ok-await_bytes-2.ensures.told in
    let more = awaits_more g.S.Source.left _ _ _ _ _ c.in_ok-await_bytes-2.ensures.draws in
    let lf : get_or c.await_bytes-2.new.inbox.0 1 0 ≡ 10 = subst (λ b. get_or b 1 0 ≡ 10) c.bytes-2.ensures c.if-bytes-ne10.false in
    drew_used g.S.Source.left (λ y. StopsContent 0 y unended) _ _ _ _ _ 2 _ (both c.in_ok-await_bytes-2.ensures.draws) told2 c.consume.ensures.bytes c.consume.ensures.place (crlf_front c.await_bytes-2.new.inbox.0 told2 (still_front c.await_bytes.new.inbox.0 c.await_bytes-2.new.inbox.0 more.0 more.1 (omega (arith, told)) cr) lf)
