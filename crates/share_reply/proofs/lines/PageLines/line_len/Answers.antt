use Rattle.std.proofs.Common.{◌∙◌, ap}
use Rattle.std.specs.Prelude.{slice_get}
use Rattle.log_actions.specs.declared.actions.Protocol.{Protocol}
use Rattle.share_reply.specs.Planned.{lines_of}
use Rattle.share_reply.proofs.lines.PageLines.line_len.Goals as goal

pub returns-in-None : goal.returns-in-None
returns-in-None c =
    let s = c.self.inside in
    let none = c.in-None.ensures s.signing.keys.now s.signing.access s.signing.expires in
    let told = ap (λ (p : Protocol). slice_get (lines_of s.signing.keys.now s.signing.access s.signing.expires p s.meta.now s.content s.end) c.args.n) c.protocol_or-protocol.ensures in
    rw (← c.self.view_is, ← (none ∙ told))
