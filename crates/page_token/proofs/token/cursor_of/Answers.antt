use Rattle.std.proofs.Common.{◌∙◌, arith}
use Rattle.page_token.specs.Payload.{payload}
use Rattle.page_token.proofs.CursorOf.{none_is, payload_is}
use Rattle.page_token.proofs.Signed.{if_ok_both, same_bytes, spelling_bytes}
use Rattle.page_token.proofs.token.cursor_of.Goals as goal

pub returns-in-Some : goal.returns-in-Some
returns-in-Some c =
    if_ok_both c.read_payload.result _ _ _
    (λ o. payload_is c.args.key.now c.args.text.now _ o (omega arith)
    (rw c.deref.ensures.value (rw c.in-Some.is at c.in_ok-payload.ensures.found))
    (λ d s.
    let one = c.in_ok-payload.ensures.every (payload d) (spelling_bytes c.args.text.now c.args.key.now d (omega arith) s) s.spelt in
    c.deref.ensures.value ∙ same_bytes _ _ (rw c.in-Some.is at one)))
    c.read_payload.ensures.found c.read_payload.ensures.every

pub returns-in-None : goal.returns-in-None
returns-in-None c =
    none_is c.args.key.now c.args.text.now (omega arith) (λ d s.
    let one = c.in_ok-payload.ensures.every (payload d) (spelling_bytes c.args.text.now c.args.key.now d (omega arith) s) s.spelt in
    let none = rw c.in-None.is at one in
    absurd cc)
