use Rattle.std.proofs.Common.{◌+◌, ◌-◌, [], arith, sym, subst, take, ◌++◌, ◌∙◌, ap, refl, Option, List, ℕ}
use Rattle.std.specs.Io.KnownBytes.{append_known}
use Rattle.log_store.proofs.Growing.{looked_refl, looks_more}
use Rattle.share_serve.specs.Sends.{HasReadOf}
use Rattle.share_serve.proofs.Basics.{append_known-append, append_known-nil}
use Rattle.share_serve.proofs.Copying.{copied_cut, copied_in_part, copied_whole, piece_front, range_grows, range_more, range_none}
use Rattle.share_serve.proofs.file.copy_range.Goals as goal

pub loop-at-init : goal.loop-at-init
loop-at-init g c =
    let os = g.W.Store.objects c.args.store.now in
    let first = sym c.first-first.ensures.value in record {
      from = omega arith;
      within = omega (arith, c.first-first.ensures.value, c.first-first.ensures.good.some, c.last-end.ensures.value);
      room = c.requires.room;
      looked = looked_refl os (g.W.Store.alone c.args.store.now);
      stored = refl;
      later = (omega arith, omega arith);
      copied = (
        [],
        subst (λ (n : ℕ). HasReadOf c.args.name.now c.args.range n os []) first (range_none c.args.name.now c.args.range c.first-first.ensures.good os c.requires.there),
        append_known-nil (g.K.Sink.holds c.args.sink.now),
      );
    }

pub returns-clause-copied : goal.returns-clause-copied
returns-clause-copied g c =
    let l = c.loop-at.invariant in
    copied_whole c.args.name.now c.args.range c.first-first.ensures.good c.loop-at.at (g.W.Store.objects c.loop-at.store) l.copied.0 (g.K.Sink.holds c.args.sink.now) (g.K.Sink.holds c.loop-at.sink) l.copied.1
    (omega (arith, l.within, c.loop-at-test.false, c.last-end.ensures.value)) l.copied.2

pub returns-in-Bytes-eq0-clause-copied : goal.returns-in-Bytes-eq0-clause-copied
returns-in-Bytes-eq0-clause-copied g c =
    let l = c.loop-at.invariant in
    copied_cut c.args.name.now c.args.range c.first-first.ensures.good c.loop-at.at (g.W.Store.objects c.get.new.self) l.copied.0 (g.K.Sink.holds c.args.sink.now) (g.K.Sink.holds c.loop-at.sink)
    (range_grows c.args.name.now c.args.range c.first-first.ensures.good c.loop-at.at (g.W.Store.objects c.loop-at.store) (g.W.Store.objects c.get.new.self) l.copied.0 c.in-Bytes-eq0.ensures.bytes.0.grows l.copied.1) (c.loop-at.at - c.first-first.result) (omega (arith, l.from, c.first-first.ensures.value))
    (omega (arith, c.loop-at-test.true, c.last-end.ensures.value)) l.copied.2

pub returns-in-Absent-clause-copied : goal.returns-in-Absent-clause-copied
returns-in-Absent-clause-copied g c =
    let l = c.loop-at.invariant in
    copied_cut c.args.name.now c.args.range c.first-first.ensures.good c.loop-at.at (g.W.Store.objects c.get.new.self) l.copied.0 (g.K.Sink.holds c.args.sink.now) (g.K.Sink.holds c.loop-at.sink)
    (range_grows c.args.name.now c.args.range c.first-first.ensures.good c.loop-at.at (g.W.Store.objects c.loop-at.store) (g.W.Store.objects c.get.new.self) l.copied.0 c.in-Absent.ensures.bytes.0.grows l.copied.1) (c.loop-at.at - c.first-first.result) (omega (arith, l.from, c.first-first.ensures.value))
    (omega (arith, c.loop-at-test.true, c.last-end.ensures.value)) l.copied.2

pub returns-in-Failed-clause-copied : goal.returns-in-Failed-clause-copied
returns-in-Failed-clause-copied g c =
    let l = c.loop-at.invariant in
    copied_cut c.args.name.now c.args.range c.first-first.ensures.good c.loop-at.at (g.W.Store.objects c.get.new.self) l.copied.0 (g.K.Sink.holds c.args.sink.now) (g.K.Sink.holds c.loop-at.sink)
    (range_grows c.args.name.now c.args.range c.first-first.ensures.good c.loop-at.at (g.W.Store.objects c.loop-at.store) (g.W.Store.objects c.get.new.self) l.copied.0 c.in-Failed.ensures.bytes.grows l.copied.1) (c.loop-at.at - c.first-first.result) (omega (arith, l.from, c.first-first.ensures.value))
    (omega (arith, c.loop-at-test.true, c.last-end.ensures.value)) l.copied.2

pub returns-in-Err-clause-copied : goal.returns-in-Err-clause-copied
returns-in-Err-clause-copied g c =
    let l = c.loop-at.invariant in
    let m = c.min-count.result in
    let more = range_more c.args.name.now c.args.range c.first-first.ensures.good c.loop-at.at c.in-Bytes.n m (g.W.Store.objects c.loop-at.store) (g.W.Store.objects c.get.new.self) (g.W.Store.alone c.loop-at.store) c.get.new.out l.copied.0
    (omega (arith, c.min-count.ensures)) c.in-Bytes.ensures.bytes l.copied.1 in
    copied_in_part c.args.name.now c.args.range c.first-first.ensures.good (c.loop-at.at + m) (g.W.Store.objects c.get.new.self) (l.copied.0 ++ take m c.get.new.out) (g.K.Sink.holds c.args.sink.now) (g.K.Sink.holds c.write_all.new.sink) more
    (omega (arith, l.from, c.min-count.ensures, c.last-end.ensures.value)) (l.copied.0 ++ take c.in-Err.field-0 (take m c.get.new.out)) (piece_front l.copied.0 (take m c.get.new.out) c.in-Err.field-0)
    (c.in-Err.ensures.wrote.1 ∙ ap (λ (z : Option (List ℕ)). append_known z (take c.in-Err.field-0 (take m c.get.new.out))) l.copied.2 ∙ append_known-append (g.K.Sink.holds c.args.sink.now) l.copied.0 (take c.in-Err.field-0 (take m c.get.new.out)))

pub loop-at-preserved : goal.loop-at-preserved
loop-at-preserved g c =
    let l = c.loop-at.invariant in
    let m = c.min-count.result in
    let more = range_more c.args.name.now c.args.range c.first-first.ensures.good c.loop-at.at c.in-Bytes.n m (g.W.Store.objects c.loop-at.store) (g.W.Store.objects c.get.new.self) (g.W.Store.alone c.loop-at.store) c.get.new.out l.copied.0
    (omega (arith, c.min-count.ensures)) c.in-Bytes.ensures.bytes l.copied.1 in record {
      from = omega (arith, l.from);
      within = omega (arith, c.min-count.ensures);
      room = omega arith;
      looked = looks_more _ _ _ _ _ _ l.looked c.in-Bytes.ensures.bytes.0 c.in-Bytes.ensures.stays;
      stored = c.in-Bytes.ensures.stored ∙ l.stored;
      later = (omega (arith, l.later.0, c.in-Bytes.ensures.cause.later), omega (arith, l.later.1, c.in-Ok.ensures.later));
      copied = (
        l.copied.0 ++ take m c.get.new.out,
        more,
        c.in-Ok.ensures.wrote ∙ ap (λ (z : Option (List ℕ)). append_known z (take m c.get.new.out)) l.copied.2 ∙ append_known-append (g.K.Sink.holds c.args.sink.now) l.copied.0 (take m c.get.new.out),
      );
    }
