use Rattle.std.proofs.Common.{◌++◌, ap, sym, ◌∙◌}
use Rattle.signed_link.proofs.Cuts.{after_again, after_none}
use Rattle.share_request.proofs.target.after.Goals as goal

pub returns-in-Some : goal.returns-in-Some
returns-in-Some c =
    let cases = c.in-Some.ensures.cases in
    sym (after_again c.args.front.now c.args.text.now c.in-Some.rest.now (cases.1.1 ∙ ap (λ x. c.args.front.now ++ x) (sym cases.2)))

pub returns-in-None : goal.returns-in-None
returns-in-None c = sym (after_none c.args.front.now c.args.text.now c.in-None.ensures.cases)
