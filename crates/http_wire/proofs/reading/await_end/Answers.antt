use Rattle.std.proofs.Common.{◌≡◌, refl, length, take, ap, ◌∙◌, arith}
use Rattle.http_wire.specs.Parts.{IsEndOpen}
use Rattle.http_wire.proofs.Looks.{still_within, still_none}
use Rattle.http_wire.proofs.Streams.{awaits_read, awaits_more}
use Rattle.http_wire.proofs.Windows.{none_ended}
use Rattle.http_wire.proofs.reading.await_end.Goals as goal

pub turns-preserved : goal.turns-preserved
turns-preserved g c =
    let window : c.front-front.result.now ≡ take c.args.most c.turns.inbox.0 = c.front-front.ensures ∙ ap (take c.args.most) c.bytes.ensures in
    let none = none_ended c.args.most c.args.start c.front-front.result.now c.turns.inbox.0 c.turns.inbox.0 window c.if-front-most.false refl c.in_default.ensures in
    let more = awaits_more g.S.Source.left _ _ _ _ _ c.turns.invariant.draws in
    let short : IsEndOpen c.args.most c.args.start c.args.inbox.now.0 c.turns.inbox.0 = (more.0, more.1, none.0, none.1) in
    let grown = awaits_more g.S.Source.left _ _ _ _ _ c.in_ok-fill.ensures.draws in
    record { draws = awaits_read g.S.Source.left (IsEndOpen c.args.most c.args.start c.args.inbox.now.0) _ _ _ _ _ _ c.turns.invariant.draws short c.in_ok-fill.ensures.draws; later = omega (arith, c.turns.invariant.later, c.in_ok-fill.ensures.later); order = omega (arith, c.turns.invariant.order, c.turns.invariant.within, ap length window); within = still_within c.args.most (length c.front-front.result.now) c.turns.inbox.0 c.fill.new.self.0 grown.0 grown.1 (omega (arith, ap length window)); none = still_none c.args.most c.args.start (length c.front-front.result.now) c.front-front.result.now c.turns.inbox.0 c.fill.new.self.0 grown.0 grown.1 window refl c.in_default.ensures }

pub returns-in-End-clause-told : goal.returns-in-End-clause-told
returns-in-End-clause-told g c =
    let told = rw c.in-End.is at c.in_ok-fill.ensures.told in
    let window : c.front-front.result.now ≡ take c.args.most c.turns.inbox.0 = c.front-front.ensures ∙ ap (take c.args.most) c.bytes.ensures in
    let none = none_ended c.args.most c.args.start c.front-front.result.now c.turns.inbox.0 c.fill.new.self.0 window c.if-front-most.false told.0 c.in_default.ensures in
    (told.1, none.0, none.1)

pub returns-in_err-fill-clause-draws : goal.returns-in_err-fill-clause-draws
returns-in_err-fill-clause-draws g c =
    let window : c.front-front.result.now ≡ take c.args.most c.turns.inbox.0 = c.front-front.ensures ∙ ap (take c.args.most) c.bytes.ensures in
    let none = none_ended c.args.most c.args.start c.front-front.result.now c.turns.inbox.0 c.turns.inbox.0 window c.if-front-most.false refl c.in_default.ensures in
    let more = awaits_more g.S.Source.left _ _ _ _ _ c.turns.invariant.draws in
    let short : IsEndOpen c.args.most c.args.start c.args.inbox.now.0 c.turns.inbox.0 = (more.0, more.1, none.0, none.1) in
    awaits_read g.S.Source.left (IsEndOpen c.args.most c.args.start c.args.inbox.now.0) _ _ _ _ _ _ c.turns.invariant.draws short c.in_err-fill.ensures.draws

pub returns-in-End-clause-draws : goal.returns-in-End-clause-draws
returns-in-End-clause-draws g c =
    let window : c.front-front.result.now ≡ take c.args.most c.turns.inbox.0 = c.front-front.ensures ∙ ap (take c.args.most) c.bytes.ensures in
    let none = none_ended c.args.most c.args.start c.front-front.result.now c.turns.inbox.0 c.turns.inbox.0 window c.if-front-most.false refl c.in_default.ensures in
    let more = awaits_more g.S.Source.left _ _ _ _ _ c.turns.invariant.draws in
    let short : IsEndOpen c.args.most c.args.start c.args.inbox.now.0 c.turns.inbox.0 = (more.0, more.1, none.0, none.1) in
    awaits_read g.S.Source.left (IsEndOpen c.args.most c.args.start c.args.inbox.now.0) _ _ _ _ _ _ c.turns.invariant.draws short c.in_ok-fill.ensures.draws
