-- Names in order, by looking at each call.
use Rattle.std.proofs.Common.{Some, None, refl}
use Rattle.signed_call.specs.declared.call.Call.TheVariants as call
use Rattle.signed_call.specs.Laws.{AreInOrder}

pub in_order : AreInOrder
in_order host None stamp (call.Get name from last) digest = (refl, refl)
in_order host None stamp (call.Head name) digest = (refl, refl)
in_order host None stamp (call.PutAbsent name mark bytes) digest = (refl, refl)
in_order host None stamp (call.List prefix None) digest = (refl, refl)
in_order host None stamp (call.List prefix (Some token)) digest = (refl, refl)
in_order host (Some t) stamp (call.Get name from last) digest = (refl, refl)
in_order host (Some t) stamp (call.Head name) digest = (refl, refl)
in_order host (Some t) stamp (call.PutAbsent name mark bytes) digest = (refl, refl)
in_order host (Some t) stamp (call.List prefix None) digest = (refl, refl)
in_order host (Some t) stamp (call.List prefix (Some token)) digest = (refl, refl)
