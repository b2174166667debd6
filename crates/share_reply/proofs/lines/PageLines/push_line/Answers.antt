use Rattle.std.proofs.Common.{◌∙◌, ap, sym}
use Rattle.std.proofs.lemmas.List.{append-nil}
use Rattle.std.specs.Prelude.{slice_get}
use Rattle.log_actions.specs.declared.actions.Protocol.{Protocol}
use Rattle.share_reply.specs.Planned.{lines_of}
use Rattle.share_reply.proofs.lines.PageLines.push_line.Goals as goal

pub returns-in-None-clause-line : goal.returns-in-None-clause-line
returns-in-None-clause-line c =
    let s = c.self.inside in
    let none = c.in-None.ensures s.signing.keys.now s.signing.access s.signing.expires in
    let told = ap (λ (p : Protocol). slice_get (lines_of s.signing.keys.now s.signing.access s.signing.expires p s.meta.now s.content s.end) c.args.n) c.protocol_or-protocol.ensures in
    rw (← c.self.view_is, ← (none ∙ told)) (sym (append-nil c.args.out.now.items))
