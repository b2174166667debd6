use Rattle.std.proofs.Common.{◌≡◌, ◌+◌, ◌<◌, ◌≢◌, length, take, ap, ◌∙◌, arith, rules}
use Rattle.http_message.specs.Ends.{blank_len}
use Rattle.http_wire.specs.Parts.{IsBlankOpen}
use Rattle.http_wire.proofs.Looks.{known_here, still_within, still_blank}
use Rattle.http_wire.proofs.Streams.{awaits_read, awaits_more}
use Rattle.http_wire.proofs.Windows.{window_short, window_whole}
use Rattle.http_wire.proofs.reading.await_start.Goals as goal

pub turns-preserved : goal.turns-preserved
turns-preserved g c =
    let window : c.front-front.result.now ≡ take c.args.most c.turns.inbox.0 = c.front-front.ensures ∙ ap (take c.args.most) c.bytes.ensures in
    let not_all : length c.front-front.result.now ≢ c.args.most = search rules in
    let whole = window_whole c.args.most c.front-front.result.now c.turns.inbox.0 window not_all in
    let few : length c.front-front.result.now < c.blank_len_from-known.result + 2 = search rules in
    let short : IsBlankOpen c.args.most c.turns.inbox.0 = (window_short c.args.most c.front-front.result.now c.turns.inbox.0 window not_all, omega (arith, few, c.blank_len_from-known.ensures.value, ap blank_len whole, ap length whole)) in
    let grown = awaits_more g.S.Source.left _ _ _ _ _ c.in_ok-fill.ensures.draws in
    record { draws = awaits_read g.S.Source.left (IsBlankOpen c.args.most) _ _ _ _ _ _ c.turns.invariant.draws short c.in_ok-fill.ensures.draws; later = omega (arith, c.turns.invariant.later, c.in_ok-fill.ensures.later); within = still_within c.args.most c.blank_len_from-known.result c.turns.inbox.0 c.fill.new.self.0 grown.0 grown.1 (omega (arith, c.blank_len_from-known.ensures.within, ap length window)); known = still_blank c.args.most c.blank_len_from-known.result c.turns.inbox.0 c.fill.new.self.0 grown.0 grown.1 (c.blank_len_from-known.ensures.value ∙ ap blank_len window) }

pub blank_len_from-known-requires-clause-known : goal.blank_len_from-known-requires-clause-known
blank_len_from-known-requires-clause-known g c =
    let window : c.front-front.result.now ≡ take c.args.most c.turns.inbox.0 = c.front-front.ensures ∙ ap (take c.args.most) c.bytes.ensures in
    known_here c.front-front.result.now (take c.args.most c.turns.inbox.0) c.turns.known window c.turns.invariant.known

pub returns-in_err-fill-clause-draws : goal.returns-in_err-fill-clause-draws
returns-in_err-fill-clause-draws g c =
    let window : c.front-front.result.now ≡ take c.args.most c.turns.inbox.0 = c.front-front.ensures ∙ ap (take c.args.most) c.bytes.ensures in
    let not_all : length c.front-front.result.now ≢ c.args.most = search rules in
    let whole = window_whole c.args.most c.front-front.result.now c.turns.inbox.0 window not_all in
    let few : length c.front-front.result.now < c.blank_len_from-known.result + 2 = search rules in
    let short : IsBlankOpen c.args.most c.turns.inbox.0 = (window_short c.args.most c.front-front.result.now c.turns.inbox.0 window not_all, omega (arith, few, c.blank_len_from-known.ensures.value, ap blank_len whole, ap length whole)) in
    awaits_read g.S.Source.left (IsBlankOpen c.args.most) _ _ _ _ _ _ c.turns.invariant.draws short c.in_err-fill.ensures.draws

pub returns-in-End-clause-draws : goal.returns-in-End-clause-draws
returns-in-End-clause-draws g c =
    let window : c.front-front.result.now ≡ take c.args.most c.turns.inbox.0 = c.front-front.ensures ∙ ap (take c.args.most) c.bytes.ensures in
    let not_all : length c.front-front.result.now ≢ c.args.most = search rules in
    let whole = window_whole c.args.most c.front-front.result.now c.turns.inbox.0 window not_all in
    let few : length c.front-front.result.now < c.blank_len_from-known.result + 2 = search rules in
    let short : IsBlankOpen c.args.most c.turns.inbox.0 = (window_short c.args.most c.front-front.result.now c.turns.inbox.0 window not_all, omega (arith, few, c.blank_len_from-known.ensures.value, ap blank_len whole, ap length whole)) in
    awaits_read g.S.Source.left (IsBlankOpen c.args.most) _ _ _ _ _ _ c.turns.invariant.draws short c.in_ok-fill.ensures.draws
