use Rattle.std.proofs.Common.{◌≡◌, ℕ, List, sym, subst}
use Rattle.std.specs.Prelude.{IfOk}
use Rattle.share_reply.proofs.ListingLemmas.{last_is, none_given}
use Rattle.share_reply.proofs.lists.last_given.Goals as goal

pub returns-in-Some : goal.returns-in-Some
returns-in-Some c =
    let P : List ℕ → Type 0 = λ text. IfOk c.name_text.result (λ t. t ≡ text) in
    subst P (sym (last_is c.args.names.now c.in-Some.field-0-1.now c.in-Some.last.now c.args.after.now c.in-Some.ensures.cases.0)) c.name_text.ensures

pub returns-in-None : goal.returns-in-None
returns-in-None c =
    let P : List ℕ → Type 0 = λ text. IfOk c.text_copy.result (λ t. t ≡ text) in
    subst P (sym (none_given c.args.names.now c.args.after.now c.in-None.ensures.cases)) c.text_copy.ensures
