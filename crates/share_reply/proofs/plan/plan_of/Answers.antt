use Rattle.std.proofs.Common.{◌≡◌, Option, option_map, subst, sym}
use Rattle.std.specs.Prelude.{IfOk}
use Rattle.share_book.specs.Shown.{show}
use Rattle.share_book.specs.declared.look.Seen.{Seen}
use Rattle.share_request.specs.declared.asked.Request.{Request}
use Rattle.share_request.specs.declared.asked.ResponseFormat.TheVariants as format
use Rattle.share_reply.specs.Answer.{object}
use Rattle.share_reply.specs.Bodies.{reply_of}
use Rattle.share_reply.specs.Chains.{NextIsSpelt}
use Rattle.share_reply.specs.Formats.{format_of}
use Rattle.share_reply.specs.Links.{linked_object}
use Rattle.share_reply.specs.Replies.{answer_from}
use Rattle.signed_link.specs.Parts.{parts_of}
use Rattle.share_reply.proofs.Spelt.{early_spelt, of_spelt, ok_all}
use Rattle.share_reply.proofs.plan.plan_of.Goals as goal

pub returns-in-ByLink-clause-reply : goal.returns-in-ByLink-clause-reply
returns-in-ByLink-clause-reply c =
    let keys = c.args.keys.now in
    let P : Request → Type 0 = λ q. IfOk c.link_plan.result (λ p. p ≡ reply_of keys (format_of q) (answer_from keys c.args.now q (option_map show c.args.seen.now))) in
    subst P (sym c.in-ByLink.is) (c.link_plan.ensures format.Parquet)

pub returns-in-ByLink-clause-view : goal.returns-in-ByLink-clause-view
returns-in-ByLink-clause-view c = λ view seen.
    let keys = c.args.keys.now in
    let q = c.args.request.now in
    let P : Request → Type 0 = λ q. IfOk c.link_plan.result (λ p. p ≡ reply_of keys (format_of q) (answer_from keys c.args.now q (option_map show c.args.seen.now))) in
    subst (λ (s : Option Seen). IfOk c.link_plan.result (λ p. p ≡ reply_of keys (format_of q) (answer_from keys c.args.now q s))) seen (subst P (sym c.in-ByLink.is) (c.link_plan.ensures format.Parquet))

pub returns-in-TurnedAway-clause-spelt : goal.returns-in-TurnedAway-clause-spelt
returns-in-TurnedAway-clause-spelt c =
    let keys = c.args.keys.now in
    subst (λ (q : Request). NextIsSpelt keys (answer_from keys c.args.now q (option_map show c.args.seen.now))) (sym c.in-TurnedAway.is) (early_spelt keys _)

pub returns-in-ByLink-clause-spelt : goal.returns-in-ByLink-clause-spelt
returns-in-ByLink-clause-spelt c =
    let keys = c.args.keys.now in
    ok_all c.link_plan.result (subst (λ (q : Request). NextIsSpelt keys (answer_from keys c.args.now q (option_map show c.args.seen.now))) (sym c.in-ByLink.is) (of_spelt keys (λ name. object name c.in-ByLink.by.span) (linked_object (option_map show c.args.seen.now) c.args.now (parts_of keys.link c.in-ByLink.by.target)) (λ name. tt)))
