-- Desks before and after their work.
use Rattle.std.specs.Prelude.{◌≡◌, ◌-◌, ◌^◌, ℕ, min, Bool, true, false, List, Option, Some, if◌then◌else◌}
use Rattle.std.specs.List.{list_any, sum_by}
use Rattle.std.specs.Option.{IsSomeAnd}
use Rattle.turn_cell.specs.Passes.{CellId}
use Rattle.edge_core.specs.Lines.{ClosedLine}
use Rattle.edge_core.specs.Objects.{Objects}
use Rattle.hub_calls.specs.Calls.{IsIdle, P}
use Rattle.share_serve.specs.Sides.{held}
use Rattle.share_serve.specs.declared.server.Server.{Server}
use Rattle.share_pool.specs.Posts.{Post, post}
use Rattle.share_pool.specs.Visits.{Works}
use Rattle.share_pool.specs.declared.desk.Desk.{Desk}
use Rattle.share_pool.specs.declared.desk.ServeEnd.{ServeEnd}
use Rattle.share_pool.specs.declared.desk.ServeEnd.TheVariants as serve_end

-- there is a pass of the hub, which holds no turn
abbrev pub HasPass : CellId → Option P → Type 0
HasPass hub pass = IsSomeAnd pass (λ p. (p.cell ≡ hub) × (p.holds ≡ false))

module _ {N W C L : Type 0} (coming : N → Option (List (List ℕ))) (closed : N → Option (List ClosedLine)) (failed : N → ℕ) (listens : N → Option ℕ) (moments : C → Option (List ℕ)) (objects : W → Option Objects) (alone : W → Bool) (faults : W → ℕ) (stored : W → ℕ) where
  abbrev pub post_of : Desk N W C L → P → Post
  post_of d pass = post (coming d.door) (closed d.door) (moments d.clock) (held objects alone faults stored pass d.store)

  -- the desk's worker did its work, from where its pass, door, clock and store stood to where they stand, its door listens where it did, and it left its answer
  pub record DeskWorks (hub : CellId) (server : Server) (old new : Desk N W C L) : Type 0 where
    pub before : P
    pub after : P
    pub ended : ServeEnd
    pub had : old.pass ≡ Some before
    pub has : new.pass ≡ Some after
    pub ends : new.end ≡ Some ended
    pub same : IsIdle before after
    pub cell : before.cell ≡ hub
    pub port : listens new.door ≡ listens old.door
    pub works : Works server (post_of old before) (post_of new after) (failed old.door) (failed new.door) ended

-- ---- the answer of all

abbrev pub is_lack : Option ServeEnd → Bool
is_lack (Some serve_end.NoMemory) = true
is_lack _ = false

abbrev pub is_fault : Option ServeEnd → Bool
is_fault (Some serve_end.ListenerFault) = true
is_fault _ = false

abbrev pub closed_in : Option ServeEnd → ℕ
closed_in (Some (serve_end.Closed served)) = served
closed_in _ = 0

-- want of memory where a worker ended so, else a fault where one ended so, else how many lines were closed, at most 2^64 - 1
abbrev pub all_end : List (Option ServeEnd) → ServeEnd
all_end ends =
    if list_any is_lack ends then serve_end.NoMemory
    else (if list_any is_fault ends then serve_end.ListenerFault else serve_end.Closed (min (sum_by closed_in ends) (2 ^ 64 - 1)))
