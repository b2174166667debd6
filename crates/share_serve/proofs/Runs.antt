-- Runs, one request longer.
use Rattle.std.proofs.Common.{ℕ, Option, List, [], ◌∷◌, ◌++◌, refl, subst}
use Rattle.share_serve.specs.Sessions.{IsSessionFrom}
use Rattle.share_serve.specs.Turns.{Runs, Serves, Side, State, Turn}
use Rattle.share_serve.specs.declared.serve.SessionEnd.{SessionEnd}
use Rattle.share_serve.specs.declared.server.Server.{Server}

pub runs_more : (server : Server) (old mid new : State) (turns : List Turn) (t : Turn) → Runs server old turns mid → Serves server mid t new → Runs server old (turns ++ t ∷ []) new
runs_more server old mid new [] t r s = (new, subst (λ (v : State). Serves server v t new) r s, refl)
runs_more server old mid new (x ∷ turns) t r s = (r.0, r.1, runs_more server r.0 mid new turns t r.2 s)

runs_join : (server : Server) (old mid new : State) (turns more : List Turn) → Runs server old turns mid → Runs server mid more new → Runs server old (turns ++ more) new
runs_join server old mid new [] more r s = subst (λ (v : State). Runs server v more new) r s
runs_join server old mid new (x ∷ turns) more r s = (r.0, r.1, runs_join server r.0 mid new turns more r.2 s)

-- a session from where requests have led is one from where they began
pub session_join : (server : Server) (old mid : State) (turns : List Turn) (e : SessionEnd) (left : Option (List ℕ)) (new : Side) → Runs server old turns mid → IsSessionFrom server mid e left new → IsSessionFrom server old e left new
session_join server old mid turns e left new r s = (turns ++ s.0, s.1, runs_join server old mid s.1 turns s.0 r s.2, s.3, s.4, s.5)
