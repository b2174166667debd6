use Rattle.std.proofs.Common.{inl, inr, Ok, Err, sym}
use Rattle.share_client.specs.Asking.{AsksFor, to_head}
use Rattle.share_client.specs.Exchanges.{Exchanges}
use Rattle.share_client.proofs.Knowing.{known_as}
use Rattle.share_client.proofs.ask.ask.Goals as goal

pub returns-then-is_fine-clause-told : goal.returns-then-is_fine-clause-told
returns-then-is_fine-clause-told g c =
    known_as g.L.Link.coming g.L.Link.closed c.args.link.now c.exchange.new.link
    (Exchanges (to_head c.args.wanted) c.args.target.now c.args.text.now (Ok c.in-Ok.response)) (AsksFor c.args.wanted c.args.target.now c.args.text.now (Ok c.in-Ok.response))
    (λ s t came. record { came = came; fine = sym c.if-is_fine.ensures }) (rw c.is_to_head.ensures at c.in-Ok.ensures.told)

pub returns-else-is_fine-clause-told : goal.returns-else-is_fine-clause-told
returns-else-is_fine-clause-told g c =
    known_as g.L.Link.coming g.L.Link.closed c.args.link.now c.exchange.new.link
    (Exchanges (to_head c.args.wanted) c.args.target.now c.args.text.now (Ok c.in-Ok.response)) (AsksFor c.args.wanted c.args.target.now c.args.text.now (Err c.refused.result))
    (λ s t came. inr (c.in-Ok.response, record { came = came; not_fine = sym c.if-is_fine.ensures; tells = c.refused.ensures })) (rw c.is_to_head.ensures at c.in-Ok.ensures.told)

pub returns-in-Err-clause-told : goal.returns-in-Err-clause-told
returns-in-Err-clause-told g c =
    known_as g.L.Link.coming g.L.Link.closed c.args.link.now c.exchange.new.link
    (Exchanges (to_head c.args.wanted) c.args.target.now c.args.text.now (Err c.in-Err.fault)) (AsksFor c.args.wanted c.args.target.now c.args.text.now (Err c.in-Err.fault))
    (λ s t came. inl came) (rw c.is_to_head.ensures at c.in-Err.ensures.told)
