use Rattle.std.proofs.Common.{◌∙◌}
use Rattle.bucket_store.proofs.Exchanging.{asked_at, not_asked}
use Rattle.bucket_store.proofs.asking.ask.Goals as goal

pub returns : goal.returns
returns g c =
    asked_at c.args.place.now c.args.call.now c.exchange.result c.stamp_of-stamp.result c.now.result c.is_head.result c.as_bytes.result.now c.body.result.now
    _ _ _ _ _ _
    c.now.ensures.told c.stamp_of-stamp.ensures c.is_head.ensures (c.as_bytes.ensures.value ∙ c.as_str.ensures ∙ c.in-Ok.ensures) c.body.ensures c.exchange.ensures

pub returns-in_default : goal.returns-in_default
returns-in_default g c = not_asked c.args.place.now c.args.call.now c.stamp_of-stamp.result c.now.result _ _ _ _ c.now.ensures.told c.stamp_of-stamp.ensures
