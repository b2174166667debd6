-- That what a session adds stands.
use Rattle.std.specs.Prelude.{ℕ, List, Option}
use Rattle.share_hub.specs.Backing.{AddsStanding}
use Rattle.share_serve.specs.Sessions.{IsSession}
use Rattle.share_serve.specs.Turns.{Hold, Side}
use Rattle.share_serve.specs.declared.serve.SessionEnd.{SessionEnd}
use Rattle.share_serve.specs.declared.server.Server.{Server}

-- all that the caller added between these stands in the history that it has seen then and in the store
abbrev pub HoldsAdded : (old new : Hold) → Type 0
HoldsAdded old new = AddsStanding old.pass new.pass new.shelf.objects

-- What a session adds to the history, whatever it is answered and however it ends, stands in the history and in the store at its end.
abbrev pub WhatIsAddedStands : Type 0
WhatIsAddedStands = (server : Server) (bytes left : Option (List ℕ)) (old new : Side) (e : SessionEnd) → IsSession server bytes left old new e → HoldsAdded old.hold new.hold
