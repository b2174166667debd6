-- Requests by tokens that nobody has, as their heads tell them.
use Rattle.std.specs.Prelude.{◌≡◌, ◌⊎◌, ℕ, Bool, false, List, Option, Some, bytes_eq, is_some}
use Rattle.std.specs.List.{list_any}
use Rattle.case_table.specs.declared.routing.Route.{Route}
use Rattle.case_table.specs.declared.routing.Route.TheVariants as route
use Rattle.http_message.specs.declared.head.Head.{Head}
use Rattle.hub_calls.specs.Calls.{P}
use Rattle.share_book.specs.Views.{view_by}
use Rattle.share_book.specs.declared.entry.Entry.{Entry}
use Rattle.share_catalog.specs.Views.{token}
use Rattle.share_request.specs.Callers.{caller_in}
use Rattle.share_request.specs.declared.asked.Caller.{Caller}
use Rattle.share_serve.specs.Callers.{party_of}
use Rattle.share_serve.specs.declared.caller.Party.{Party}
use Rattle.share_serve.specs.declared.caller.Party.TheVariants as party
use Rattle.share_serve.specs.declared.server.Server.{Server}

-- the token is one that such a party has: a recipient at that point of the history, or whom the configuration names
abbrev pub is_of : Party → Server → List Entry → List ℕ → Bool
is_of party.Recipient server point digest = is_some (view_by point (token digest))
is_of party.Provider server point digest = list_any (λ d. bytes_eq d digest) server.providers
is_of party.Administrator server point digest = bytes_eq server.admin digest

-- the token is one that the route wants
abbrev pub is_known : Server → List Entry → Caller → Bool
is_known server point c = is_of (party_of c.route) server point c.digest

-- the head's request is by a token that nobody has whom its route wants
abbrev pub IsStrangers : Server → List Entry → Head → Type 0
IsStrangers server point head = (c : Caller) × (caller_in head ≡ Some c) × (is_known server point c ≡ false)

-- The history may be heard further for a query alone, before it is looked at for its answer.
abbrev pub HearsFor : Route → (old new : P) → Type 0
HearsFor r old new = (new ≡ old) ⊎ (r ≡ route.Query)

abbrev pub Hears : Head → (old new : P) → Type 0
Hears head old new = (new ≡ old) ⊎ ((c : Caller) × (caller_in head ≡ Some c) × (c.route ≡ route.Query))
