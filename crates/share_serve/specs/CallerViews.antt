-- Who answers a request, of what the code holds of it.
use Rattle.case_table.specs.declared.refuse.Refusal.TheVariants as refusal
use Rattle.share_reply.specs.Refusing.{plain}
use Rattle.share_request.specs.Faults.{fault_detail, fault_refusal}
use Rattle.share_serve.specs.Callers.{By, commit, edit, refresh, refused, view}
use Rattle.share_serve.specs.declared.caller.By.{By as Held}
use Rattle.share_serve.specs.declared.caller.By.TheVariants as held
use Rattle.share_serve.specs.declared.caller.Call.{Call}
use Rattle.share_serve.specs.declared.caller.Call.TheVariants as call

abbrev pub by_call : Call → By
by_call (call.Commit offer) = commit offer.now
by_call (call.Refresh location) = refresh location.now
by_call (call.Edit e) = edit e.now
by_call call.Unauthenticated = refused (plain refusal.Unauthenticated)
by_call (call.Fault fault) = refused (record { refusal = fault_refusal fault; detail = fault_detail fault })

abbrev pub by_of : Held → By
by_of held.View = view
by_of (held.Call c) = by_call c
