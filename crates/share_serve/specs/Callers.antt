-- Who answers a request: the view of a recipient, or a call that providers and the administrator make.
use Rattle.std.specs.Prelude.{ℕ, List, Bool, Result, Ok, Err, bytes_eq, if◌then◌else◌}
use Rattle.std.specs.List.{list_any}
use Rattle.case_table.specs.declared.refuse.Refusal.TheVariants as refusal
use Rattle.case_table.specs.declared.routing.Route.{Route}
use Rattle.case_table.specs.declared.routing.Route.TheVariants as route
use Rattle.commit_check.specs.declared.offer.Offer.{Offer}
use Rattle.hmac_core.specs.Hmac.{block_key}
use Rattle.share_catalog.specs.declared.edit.Edit.{Edit}
use Rattle.share_config.specs.declared.config.Config.{Config}
use Rattle.share_config.specs.declared.config.Keys.{Keys}
use Rattle.share_reply.specs.Refusing.{Refused, plain}
use Rattle.share_reply.specs.declared.keys.ReplyKeys.{ReplyKeys}
use Rattle.share_request.specs.Faults.{fault_detail, fault_refusal}
use Rattle.share_request.specs.declared.asked.ByToken.{ByToken}
use Rattle.share_request.specs.declared.asked.Request.{Request}
use Rattle.share_request.specs.declared.asked.Request.TheVariants as request
use Rattle.share_request.specs.declared.asked.What.{What}
use Rattle.share_request.specs.declared.asked.What.TheVariants as what
use Rattle.share_request.specs.declared.fault.RequestFault.{RequestFault}
use Rattle.share_serve.specs.declared.caller.Party.{Party}
use Rattle.share_serve.specs.declared.caller.Party.TheVariants as party
use Rattle.share_serve.specs.declared.server.Server.{Server}

-- a server of a configuration: its keys are prepared
abbrev pub keys_of : Keys → ReplyKeys
keys_of k = record { token = block_key k.token; link = block_key k.link; ttl = k.ttl; endpoint = k.endpoint }

abbrev pub server_of : Config → Server
server_of c = record { keys = keys_of c.keys; admin = c.admin; providers = c.providers }

-- whose token a route wants
abbrev pub party_of : Route → Party
party_of route.ListShares = party.Recipient
party_of route.GetShare = party.Recipient
party_of route.ListSchemas = party.Recipient
party_of route.ListTables = party.Recipient
party_of route.ListAll = party.Recipient
party_of route.Version = party.Recipient
party_of route.Metadata = party.Recipient
party_of route.Query = party.Recipient
party_of route.Changes = party.Recipient
party_of route.File = party.Recipient
party_of route.Commit = party.Provider
party_of route.Refresh = party.Provider
party_of route.Edit = party.Administrator

-- A request is answered from a recipient's view, by a call, or refused before any call.
pub data By : Type 0 where
  view : By
  commit : Offer → By
  refresh : List ℕ → By
  edit : Edit → By
  refused : Refused → By

abbrev pub by_what : What → By
by_what (what.Commit offer) = commit offer
by_what (what.Refresh location) = refresh location
by_what (what.Edit e) = edit e
by_what _ = view

-- a fault of the request is told once it is known who asks
abbrev pub by_asked : Result What RequestFault → By
by_asked (Ok w) = by_what w
by_asked (Err fault) = refused (record { refusal = fault_refusal fault; detail = fault_detail fault })

abbrev pub where_known : Bool → Result What RequestFault → By
where_known known asked = if known then by_asked asked else refused (plain refusal.Unauthenticated)

abbrev pub by_party : Party → Server → ByToken → By
by_party party.Recipient server r = view
by_party party.Provider server r = where_known (list_any (λ digest. bytes_eq digest r.digest) server.providers) r.asked
by_party party.Administrator server r = where_known (bytes_eq server.admin r.digest) r.asked

abbrev pub by_request : Server → Request → By
by_request server (request.TurnedAway why) = view
by_request server (request.ByToken r) = by_party (party_of r.route) server r
by_request server (request.ByLink r) = view
