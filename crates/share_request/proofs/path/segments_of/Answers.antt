use Rattle.std.proofs.Common.{◌≡◌, ◌≤◌, [], ◌∷◌, ◌++◌, Some, None, length, take, sym, ap, ◌∙◌, append_assoc, arith, length-append}
use Rattle.std.proofs.lemmas.List.{take_all, take_at}
use Rattle.signed_link.specs.Reading.{cut}
use Rattle.share_request.specs.Paths.{segment_text, segments_in}
use Rattle.share_request.proofs.Segments.{cut_text, segments_cut, segments_last}
use Rattle.share_request.proofs.path.segments_of.Goals as goal

pub loop-rest-preserved : goal.loop-rest-preserved
loop-rest-preserved c =
    let rest = c.loop-rest.rest.now in
    let found = c.loop-rest.segments.items in
    let one = c.in_ok-segment_text-2.field-0 in
    let later = segments_in c.in-Some.later.now in
    let is : cut 47 rest ≡ Some (c.in-Some.segment.now, c.in-Some.later.now) = sym c.in-Some.ensures in
    let size = ap length c.in_ok-push-2.ensures.items ∙ length-append found (one ∷ []) in
    let less = c.loop-rest-test.true in
    record {
      found =
          ap (λ v. v ++ later) c.in_ok-push-2.ensures.items
          ∙ append_assoc found (one ∷ []) later
          ∙ ap (λ t. found ++ t ∷ later) c.in_ok-segment_text-2.ensures
          ∙ ap (λ v. found ++ v) (sym (segments_cut rest c.in-Some.segment.now c.in-Some.later.now is))
          ∙ c.loop-rest.invariant.found;
      few = omega arith;
      text = cut_text rest c.in-Some.segment.now c.in-Some.later.now is c.loop-rest.invariant.text;
    }

pub returns-in_default : goal.returns-in_default
returns-in_default c =
    let rest = c.loop-rest.rest.now in
    let found = c.loop-rest.segments.items in
    let none : cut 47 rest ≡ None = sym c.in_default.ensures in
    let whole : found ++ segment_text rest ∷ [] ≡ segments_in c.args.path.now = ap (λ v. found ++ v) (sym (segments_last rest none)) ∙ c.loop-rest.invariant.found in
    let size = sym (ap length whole) ∙ length-append found (segment_text rest ∷ []) in
    let less = c.loop-rest-test.true in
    let few : length (segments_in c.args.path.now) ≤ 8 = omega arith in
    c.in_ok-push.ensures.items ∙ ap (λ t. found ++ t ∷ []) c.in_ok-segment_text.ensures ∙ whole ∙ sym (take_all 8 (segments_in c.args.path.now) few)

pub returns : goal.returns
returns c =
    let found = c.loop-rest.segments.items in
    let few = c.loop-rest.invariant.few in
    let more = c.loop-rest-test.false in
    let all : length found ≡ 8 = omega arith in
    sym (take_at found (segments_in c.loop-rest.rest.now) 8 all) ∙ ap (take 8) c.loop-rest.invariant.found
