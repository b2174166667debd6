use Rattle.std.proofs.Common.{◌≡◌, All, length, decimal, ap, subst, arith}
use Rattle.hmac_core.proofs.Bytes.{IsByte, utf8_bytes}
use Rattle.page_token.specs.declared.cursor.TableAccess.{TableAccess}
use Rattle.text_forms.specs.Escape.{escaped}
use Rattle.share_reply.specs.Access.{link_parts}
use Rattle.share_reply.proofs.LinkLengths.{link_length}
use Rattle.share_reply.proofs.access.Access.link_len.Goals as goal

pub returns-clause-counted : goal.returns-clause-counted
returns-clause-counted c =
    let s = c.self.inside in
    let a : TableAccess = record { recipient = s.recipient; share = s.table.now.share; schema = s.table.now.schema; table = s.table.now.table; grant = s.grant; binding = s.binding } in
    let bytes : All IsByte c.args.path.now = subst (All IsByte) c.as_str.ensures (utf8_bytes c.as_str.result.now c.as_str.utf8) in
    let path : length (escaped c.as_str.result.now) ≡ length (escaped c.args.path.now) = ap (λ t. length (escaped t)) c.as_str.ensures in
    let binding : length (decimal c.get.result) ≡ length (decimal a.binding) = ap (λ n. length (decimal n)) c.get.ensures.value in
    let expires : length (decimal c.get-2.result) ≡ length (decimal c.args.expires) = ap (λ n. length (decimal n)) c.get-2.ensures.value in
    let grant : length (decimal c.get-3.result) ≡ length (decimal a.grant) = ap (λ n. length (decimal n)) c.get-3.ensures.value in
    rw (← c.self.view_is)
    (omega (arith, link_length c.args.keys.now.link c.args.keys.now.endpoint (link_parts a c.args.expires c.args.path.now) (omega arith) (omega arith) (omega arith) bytes))
