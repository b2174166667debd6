use Rattle.std.proofs.Common.{◌∙◌, Option, ap, subst, sym}
use Rattle.signed_link.specs.Parts.{parts_of}
use Rattle.signed_link.specs.declared.parts.LinkParts.{LinkParts}
use Rattle.share_reply.specs.Links.{linked_object}
use Rattle.share_reply.specs.Stops.{Gives}
use Rattle.share_reply.proofs.ShownParts.{link_shown}
use Rattle.share_reply.proofs.plan.link_plan.Goals as goal

pub returns : goal.returns
returns c = λ f.
    let seen = c.args.seen.now in
    let parts = parts_of c.args.keys.now.link c.args.by.now.target in
    let P : Option LinkParts → Type 0 = λ found. Gives c.linked_object.result (linked_object seen c.args.now found) in
    let here = subst P (c.in_ok-parts.ensures ∙ ap (λ text. parts_of c.args.keys.now.link text) c.as_str.ensures) c.linked_object.ensures in
    c.of_object.ensures c.args.keys.now f _ (subst (Gives c.linked_object.result) (sym (link_shown seen c.args.now parts)) here)
