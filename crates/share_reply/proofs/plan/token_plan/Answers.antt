use Rattle.std.proofs.Common.{◌∙◌, Option, ap, option_map, subst, sym}
use Rattle.share_book.specs.Shown.{show, show_found}
use Rattle.share_book.specs.declared.look.Seen.{Seen}
use Rattle.share_reply.specs.Bodies.{reply_of}
use Rattle.share_reply.specs.Chains.{NextIsSpelt}
use Rattle.share_reply.specs.Replies.{answer_asked, answer_to, is_expired}
use Rattle.share_reply.proofs.ReplyLemmas.{is_over}
use Rattle.share_reply.proofs.plan.token_plan.Goals as goal

pub returns-then-is_expired-clause-reply : goal.returns-then-is_expired-clause-reply
returns-then-is_expired-clause-reply c =
    let keys = c.args.keys.now in
    let seen = c.in-Some.seen in
    let over = sym c.is_expired.ensures ∙ c.if-is_expired.true in
    c.refused-then-is_expired.ensures
    ∙ ap (reply_of keys c.args.format) (sym (is_over (is_expired seen.expires c.args.now) (answer_asked keys seen.recipient c.args.now c.args.asked.now) (show_found seen.found) over))
    ∙ ap (λ (s : Option Seen). reply_of keys c.args.format (answer_to keys c.args.now c.args.asked.now (option_map show s))) (sym c.in-Some.is)

pub returns-then-is_expired-clause-spelt : goal.returns-then-is_expired-clause-spelt
returns-then-is_expired-clause-spelt c =
    let keys = c.args.keys.now in
    let seen = c.in-Some.seen in
    let over = sym c.is_expired.ensures ∙ c.if-is_expired.true in
    subst (λ (s : Option Seen). NextIsSpelt keys (answer_to keys c.args.now c.args.asked.now (option_map show s))) (sym c.in-Some.is)
    (subst (NextIsSpelt keys) (sym (is_over (is_expired seen.expires c.args.now) (answer_asked keys seen.recipient c.args.now c.args.asked.now) (show_found seen.found) over)) tt)
