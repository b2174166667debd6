use Rattle.std.proofs.Common.{◌≡◌, subst, sym}
use Rattle.std.specs.Prelude.{IfOk}
use Rattle.share_book.specs.Shown.{show_found}
use Rattle.share_book.specs.declared.look.Found.{Found}
use Rattle.share_reply.specs.Answer.{names, of}
use Rattle.share_reply.specs.Bodies.{reply_of}
use Rattle.share_reply.specs.Lists.{names_page}
use Rattle.share_reply.specs.Replies.{of_names}
use Rattle.share_reply.proofs.plan.listing_plan.Goals as goal

pub returns-in-Names : goal.returns-in-Names
returns-in-Names c = λ f.
    let keys = c.args.keys.now in
    let P : Found → Type 0 = λ found. IfOk c.of_names.result (λ p. p ≡ reply_of keys f (of_names (λ seen. of names (names_page keys c.args.recipient.now seen c.args.listing)) (show_found found))) in
    subst P (sym c.in-Names.is) (c.of_names.ensures keys f _ c.names_text.ensures)
