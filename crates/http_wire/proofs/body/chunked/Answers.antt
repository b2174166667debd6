use Rattle.std.proofs.Common.{◌≡◌, ◌-◌, [], ◌++◌, Ok, Err, refl, length, sym, ap, ◌∙◌, subst, arith, rules}
use Rattle.std.proofs.lemmas.Result.{err_from_is_err_and}
use Rattle.http_message.specs.Bodies.{whole, unended, ReadsChunked}
use Rattle.http_wire.specs.declared.chunk.Part.TheVariants as part
use Rattle.http_wire.proofs.Chunks.{chunking_none}
use Rattle.http_wire.proofs.Streams.{draws_none}
use Rattle.http_wire.proofs.Whole.{chunks_end, chunks_more}
use Rattle.http_wire.proofs.body.chunked.Goals as goal

pub chunks-init : goal.chunks-init
chunks-init g c =
    record { later = omega arith; read = ([], [], draws_none g.S.Source.left (λ y. ReadsChunked c.args.most y unended) _ _ _ _ refl refl, chunking_none c.args.most c.args.body.now.items c.requires) }

pub chunks-preserved : goal.chunks-preserved
chunks-preserved g c =
    let here : c.args.most - c.len.result ≡ c.args.most - length c.chunks.body.items = search rules in
    let more = chunks_more g.S.Source.left c.args.most (c.args.most - c.len.result) c.chunks.body.items c.next_chunk.new.body.items _ _ _ _ _ _ here c.chunks.invariant.read (rw c.in-More.is at c.in_ok-next_chunk.ensures.read) in
    record { later = omega (arith, c.chunks.invariant.later, c.in_ok-next_chunk.ensures.later); read = more.0 }

pub chunks-smaller : goal.chunks-smaller
chunks-smaller g c =
    let here : c.args.most - c.len.result ≡ c.args.most - length c.chunks.body.items = search rules in
    let more = chunks_more g.S.Source.left c.args.most (c.args.most - c.len.result) c.chunks.body.items c.next_chunk.new.body.items _ _ _ _ _ _ here c.chunks.invariant.read (rw c.in-More.is at c.in_ok-next_chunk.ensures.read) in
    omega (arith, more.1, more.2)

pub returns-in_err-next_chunk-clause-read : goal.returns-in_err-next_chunk-clause-read
returns-in_err-next_chunk-clause-read g c =
    let here : c.args.most - c.len.result ≡ c.args.most - length c.chunks.body.items = search rules in
    let p = err_from_is_err_and c.from_residual.result c.from_residual.ensures.1 in
    let d = chunks_end g.S.Source.left c.args.most (c.args.most - c.len.result) c.chunks.body.items c.next_chunk.new.body.items _ _ _ _ _ _ (Err c.in_err-next_chunk.field-0.0) here c.chunks.invariant.read c.in_err-next_chunk.ensures.read in
    rw p.1 (d.0, d.1, d.2, tt)

pub returns-in-Whole-clause-read : goal.returns-in-Whole-clause-read
returns-in-Whole-clause-read g c =
    let here : c.args.most - c.len.result ≡ c.args.most - length c.chunks.body.items = search rules in
    let same : c.next_chunk.new.body.items ≡ c.chunks.body.items = c.next_chunk.ensures.kept (c.in_ok-next_chunk.was ∙ ap (λ x. Ok x) c.in-Whole.is) in
    let d = chunks_end g.S.Source.left c.args.most (c.args.most - c.len.result) c.chunks.body.items c.next_chunk.new.body.items _ _ _ _ _ _ (Ok part.Whole) here c.chunks.invariant.read (rw c.in-Whole.is at c.in_ok-next_chunk.ensures.read) in
    (d.0, d.1, d.2, (λ ys. subst (λ x. ReadsChunked c.args.most (d.1 ++ ys) (whole x ys)) (sym same) (d.3 ys)))

pub returns-in-Ended-clause-read : goal.returns-in-Ended-clause-read
returns-in-Ended-clause-read g c =
    let here : c.args.most - c.len.result ≡ c.args.most - length c.chunks.body.items = search rules in
    let d = chunks_end g.S.Source.left c.args.most (c.args.most - c.len.result) c.chunks.body.items c.next_chunk.new.body.items _ _ _ _ _ _ (Ok part.Ended) here c.chunks.invariant.read (rw c.in-Ended.is at c.in_ok-next_chunk.ensures.read) in
    (d.0, d.1, d.2, d.3)

pub returns-in-Refused-clause-read : goal.returns-in-Refused-clause-read
returns-in-Refused-clause-read g c =
    let here : c.args.most - c.len.result ≡ c.args.most - length c.chunks.body.items = search rules in
    let d = chunks_end g.S.Source.left c.args.most (c.args.most - c.len.result) c.chunks.body.items c.next_chunk.new.body.items _ _ _ _ _ _ (Ok (part.Refused c.in-Refused.flaw)) here c.chunks.invariant.read (rw c.in-Refused.is at c.in_ok-next_chunk.ensures.read) in
    (d.0, d.1, d.2, d.3)
