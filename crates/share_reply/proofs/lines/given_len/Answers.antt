use Rattle.std.proofs.Common.{[], ◌+◌, ◌∙◌, ap, length, sym}
use Rattle.json.specs.Print.{escape}
use Rattle.delta_lines.specs.Delta.{path_of}
use Rattle.delta_lines.specs.Parts.{action_in}
use Rattle.delta_lines.specs.declared.kinds.DeltaLine.TheVariants as line
use Rattle.share_reply.specs.Access.{link_to}
use Rattle.share_reply.specs.Formats.{text_in}
use Rattle.share_reply.specs.Planned.{given_in}
use Rattle.share_reply.proofs.LineLengths.{linked_text}
use Rattle.share_reply.proofs.lines.given_len.Goals as goal

pub returns : goal.returns
returns c =
    let s = c.args.signing.now in
    let g = c.args.given.now in
    let url = link_to s.keys.now s.access s.expires (path_of (action_in g.action)) in
    let bare = text_in c.args.format (line.File (given_in [] s.expires g)) in
    let counted = c.link_len-link.ensures.counted ∙ ap (λ path. length (escape (link_to s.keys.now s.access s.expires path))) c.path.ensures in
    c.linked_len.ensures bare (text_in c.args.format (line.File (given_in url s.expires g))) c.bare_len.ensures (linked_text c.args.format g url s.expires ∙ ap (λ n. length bare + n) (sym counted))
