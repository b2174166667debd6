-- The methods of requests (RFC 9110, section 9.3).
use Rattle.std.specs.Prelude.{ℕ, List, codes}
use Rattle.signed_call.specs.declared.call.Method.{Method}
use Rattle.signed_call.specs.declared.call.Method.TheVariants as method

abbrev pub method_name : Method → List ℕ
method_name method.Get = codes "GET"
method_name method.Head = codes "HEAD"
method_name method.Put = codes "PUT"
