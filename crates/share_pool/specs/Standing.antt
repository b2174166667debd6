-- That what a worker adds stands.
use Rattle.std.specs.Prelude.{List}
use Rattle.share_serve.specs.Standing.{HoldsAdded}
use Rattle.share_serve.specs.declared.server.Server.{Server}
use Rattle.share_pool.specs.Posts.{Post}
use Rattle.share_pool.specs.Visits.{Attended, Visit}

-- What a worker adds to the history, in refreshes and in sessions, stands in the history and in the store at its end.
abbrev pub WhatWorkersAddStands : Type 0
WhatWorkersAddStands = (server : Server) (old new : Post) (visits : List Visit) → Attended server old visits new → HoldsAdded old.hold new.hold
