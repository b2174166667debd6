use Rattle.std.proofs.Common.{◌≡◌, length, arith, rules}
use Rattle.std.proofs.lemmas.List.{length-take}
use Rattle.http_message.specs.Ends.{blank_len}
use Rattle.http_wire.specs.Heads.{IsHeadOpen}
use Rattle.http_wire.specs.Parts.{IsBlankOpen, IsEndOpen}
use Rattle.http_wire.proofs.HeadEnds.{blank_open, end_open, end_found, none_found, no_head, end_inside}
use Rattle.http_wire.proofs.Streams.{awaits_weaken, awaits_then, awaits_more}
use Rattle.http_wire.proofs.head.head_end.Goals as goal

pub returns-in_err-start-clause-draws : goal.returns-in_err-start-clause-draws
returns-in_err-start-clause-draws g c =
    (awaits_weaken g.S.Source.left (IsHeadOpen c.args.most) (IsBlankOpen c.args.most) _ _ _ _ (blank_open c.args.most) c.in_err-start.ensures.draws)

pub returns-in-TooLarge-clause-draws : goal.returns-in-TooLarge-clause-draws
returns-in-TooLarge-clause-draws g c =
    (awaits_weaken g.S.Source.left (IsHeadOpen c.args.most) (IsBlankOpen c.args.most) _ _ _ _ (blank_open c.args.most) c.in_ok-start.ensures.draws)

pub returns-then-is_blank-clause-draws : goal.returns-then-is_blank-clause-draws
returns-then-is_blank-clause-draws g c =
    (awaits_weaken g.S.Source.left (IsHeadOpen c.args.most) (IsBlankOpen c.args.most) _ _ _ _ (blank_open c.args.most) c.in_ok-start.ensures.draws)

pub returns-in-Ended-clause-draws : goal.returns-in-Ended-clause-draws
returns-in-Ended-clause-draws g c =
    (awaits_weaken g.S.Source.left (IsHeadOpen c.args.most) (IsBlankOpen c.args.most) _ _ _ _ (blank_open c.args.most) c.in_ok-start.ensures.draws)

pub returns-in_err-end-clause-draws : goal.returns-in_err-end-clause-draws
returns-in_err-end-clause-draws g c =
    let s = rw c.in-Start.is at c.in_ok-start.ensures.told in
    awaits_then g.S.Source.left (IsHeadOpen c.args.most) (IsEndOpen c.args.most c.in-Start.start c.await_start.new.inbox.0) _ _ _ _ _ _ (awaits_weaken g.S.Source.left (IsHeadOpen c.args.most) (IsBlankOpen c.args.most) _ _ _ _ (blank_open c.args.most) c.in_ok-start.ensures.draws)
    (λ y open_end. end_open c.args.most c.await_start.new.inbox.0 y c.in-Start.start s.0 s.1 open_end) c.in_err-end.ensures.draws

pub returns-in-At-clause-draws : goal.returns-in-At-clause-draws
returns-in-At-clause-draws g c =
    let s = rw c.in-Start.is at c.in_ok-start.ensures.told in
    awaits_then g.S.Source.left (IsHeadOpen c.args.most) (IsEndOpen c.args.most c.in-Start.start c.await_start.new.inbox.0) _ _ _ _ _ _ (awaits_weaken g.S.Source.left (IsHeadOpen c.args.most) (IsBlankOpen c.args.most) _ _ _ _ (blank_open c.args.most) c.in_ok-start.ensures.draws)
    (λ y open_end. end_open c.args.most c.await_start.new.inbox.0 y c.in-Start.start s.0 s.1 open_end) c.in_ok-end.ensures.draws

pub returns-in-TooLarge-2-clause-draws : goal.returns-in-TooLarge-2-clause-draws
returns-in-TooLarge-2-clause-draws g c =
    let s = rw c.in-Start.is at c.in_ok-start.ensures.told in
    awaits_then g.S.Source.left (IsHeadOpen c.args.most) (IsEndOpen c.args.most c.in-Start.start c.await_start.new.inbox.0) _ _ _ _ _ _ (awaits_weaken g.S.Source.left (IsHeadOpen c.args.most) (IsBlankOpen c.args.most) _ _ _ _ (blank_open c.args.most) c.in_ok-start.ensures.draws)
    (λ y open_end. end_open c.args.most c.await_start.new.inbox.0 y c.in-Start.start s.0 s.1 open_end) c.in_ok-end.ensures.draws

pub returns-in-Ended-2-clause-draws : goal.returns-in-Ended-2-clause-draws
returns-in-Ended-2-clause-draws g c =
    let s = rw c.in-Start.is at c.in_ok-start.ensures.told in
    awaits_then g.S.Source.left (IsHeadOpen c.args.most) (IsEndOpen c.args.most c.in-Start.start c.await_start.new.inbox.0) _ _ _ _ _ _ (awaits_weaken g.S.Source.left (IsHeadOpen c.args.most) (IsBlankOpen c.args.most) _ _ _ _ (blank_open c.args.most) c.in_ok-start.ensures.draws)
    (λ y open_end. end_open c.args.most c.await_start.new.inbox.0 y c.in-Start.start s.0 s.1 open_end) c.in_ok-end.ensures.draws

pub returns-in-TooLarge-clause-told : goal.returns-in-TooLarge-clause-told
returns-in-TooLarge-clause-told g c =
    let told = rw c.in-TooLarge.is at c.in_ok-start.ensures.told in
    (told.0, λ more. no_head c.args.most c.await_start.new.inbox.0 told.0 told.1 more)

pub returns-then-is_blank-clause-told : goal.returns-then-is_blank-clause-told
returns-then-is_blank-clause-told g c =
    let told = rw c.in-Ended.is at c.in_ok-start.ensures.told in
    let u = c.await_start.new.inbox.0 in
    let all : blank_len u ≡ length u = search rules in
    (told.0, blank_open c.args.most u told.1, all)

pub returns-in-Ended-clause-told : goal.returns-in-Ended-clause-told
returns-in-Ended-clause-told g c =
    let told = rw c.in-Ended.is at c.in_ok-start.ensures.told in
    let u = c.await_start.new.inbox.0 in
    let text : ¬ (blank_len u ≡ length u) = search rules in
    (told.0, blank_open c.args.most u told.1, text)

pub await_end-requires-clause-order : goal.await_end-requires-clause-order
await_end-requires-clause-order g c =
    let told = rw c.in-Start.is at c.in_ok-start.ensures.told in
    omega (arith, told.1, length-take c.args.most c.await_start.new.inbox.0)

pub await_end-requires-clause-within : goal.await_end-requires-clause-within
await_end-requires-clause-within g c =
    let told = rw c.in-Start.is at c.in_ok-start.ensures.told in
    omega (arith, told.1, length-take c.args.most c.await_start.new.inbox.0)

pub returns-in-At-clause-told : goal.returns-in-At-clause-told
returns-in-At-clause-told g c =
    let s = rw c.in-Start.is at c.in_ok-start.ensures.told in
    let f = rw c.in-At.is at c.in_ok-end.ensures.told in
    let grown = awaits_more g.S.Source.left _ _ _ _ _ c.in_ok-end.ensures.draws in
    end_found c.args.most c.await_start.new.inbox.0 c.await_end.new.inbox.0 grown.0 c.in-Start.start c.in-At.end grown.1 s.0 s.1 f

pub returns-in-TooLarge-2-clause-told : goal.returns-in-TooLarge-2-clause-told
returns-in-TooLarge-2-clause-told g c =
    let s = rw c.in-Start.is at c.in_ok-start.ensures.told in
    let f = rw c.in-TooLarge-2.is at c.in_ok-end.ensures.told in
    let grown = awaits_more g.S.Source.left _ _ _ _ _ c.in_ok-end.ensures.draws in
    (f.1, λ more. none_found c.args.most c.await_start.new.inbox.0 c.await_end.new.inbox.0 grown.0 c.in-Start.start grown.1 s.0 s.1 f.0 f.1 more)

pub returns-in-Ended-2-clause-told : goal.returns-in-Ended-2-clause-told
returns-in-Ended-2-clause-told g c =
    let s = rw c.in-Start.is at c.in_ok-start.ensures.told in
    let f = rw c.in-Ended-2.is at c.in_ok-end.ensures.told in
    let grown = awaits_more g.S.Source.left _ _ _ _ _ c.in_ok-end.ensures.draws in
    let both = end_inside c.args.most c.await_start.new.inbox.0 c.await_end.new.inbox.0 grown.0 c.in-Start.start grown.1 s.0 s.1 f.1 f.2 in
    (f.0, record { none = both.0; short = f.2 }, both.1)
