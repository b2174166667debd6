-- What the turns of a session and its end added stands.
use Rattle.std.proofs.Common.{◌≡◌, ⊎_elim, ℕ, List, [], ◌∷◌, sym, ap, subst}
use Rattle.edge_core.specs.Objects.{Grows}
use Rattle.edge_core.proofs.Growth.{Grows-itself, Grows-on}
use mathlib.Core.List.{IsPrefix}
use Rattle.share_request.specs.declared.asked.Request.{Request}
use Rattle.share_hub.specs.CatalogLaws.{EditsStand}
use Rattle.share_hub.specs.TableLaws.{CommitsStand, RefreshesStand}
use Rattle.share_hub.proofs.Standing.{adds_join, adds_none, adds_same}
use Rattle.share_serve.proofs.Basics.{prefix_self, prefix_trans}
use Rattle.share_serve.specs.Callers.{By, by_request}
use Rattle.share_serve.specs.Callers as by
use Rattle.share_serve.specs.Laws.{request_of}
use Rattle.share_serve.specs.Sessions.{Ends, RefusesInPart, RespondsInPart, WantsMemory}
use Rattle.share_serve.specs.Standing.{HoldsAdded, WhatIsAddedStands}
use Rattle.share_serve.specs.Turns.{AnswersBy, Grew, Hold, LacksBy, Responds, Runs, Side, State, Turn}
use Rattle.share_serve.specs.declared.response.Response.{Response}
use Rattle.share_serve.specs.declared.serve.SessionEnd.{SessionEnd}
use Rattle.share_serve.specs.declared.serve.SessionEnd.TheVariants as end
use Rattle.share_serve.specs.declared.server.Server.{Server}

-- what holds of the hub's calls
record Calls : Type 0 where
  commits : CommitsStand
  refreshes : RefreshesStand
  edits : EditsStand

-- what was added stands, the pass has seen no less, and the store has no less
pub record Stood (old new : Hold) : Type 0 where
  pub added : HoldsAdded old new
  pub seen : IsPrefix old.pass.seen new.pass.seen
  pub grows : Grows old.shelf.objects new.shelf.objects

nothing : (old new : Hold) → new ≡ old → HoldsAdded old new
nothing old new is = subst (HoldsAdded old) (sym is) (adds_same old.pass old.shelf.objects)

pub stood_still : (old new : Hold) → new ≡ old → Stood old new
stood_still old new is =
    subst (Stood old) (sym is) record { added = adds_same old.pass old.shelf.objects; seen = prefix_self old.pass.seen; grows = Grows-itself old.shelf.objects }

pub stood_on : (a b c : Hold) → Stood a b → Stood b c → Stood a c
stood_on a b c x y = record {
  added = adds_join a.pass b.pass c.pass b.shelf.objects c.shelf.objects y.grows y.seen x.added y.added;
  seen = prefix_trans a.pass.seen b.pass.seen c.pass.seen x.seen y.seen;
  grows = Grows-on a.shelf.objects b.shelf.objects c.shelf.objects x.grows y.grows;
}

pub grown : (old new : Hold) → Grew old new → HoldsAdded old new → Stood old new
grown old new g a = record { added = a; seen = g.pass.seen; grows = g.objects }

-- one answer
answered : Calls → (server : Server) (asked : Request) (b : By) (moment : ℕ) (r : Response) (old new : Hold) → AnswersBy server asked b moment r old new → HoldsAdded old new
answered calls server asked by.view moment r old new is = adds_none old.pass new.pass new.shelf.objects is.own
answered calls server asked (by.commit o) moment r old new is =
    calls.commits is.0 moment o old.shelf.objects new.shelf.objects old.shelf.alone new.shelf.alone old.pass new.pass is.1.entries is.1.stored
answered calls server asked (by.refresh l) moment r old new is = calls.refreshes is.0 l old.shelf.objects new.shelf.objects old.pass new.pass is.1.entries
answered calls server asked (by.edit e) moment r old new is =
    calls.edits is.0 e old.shelf.objects new.shelf.objects old.shelf.alone new.shelf.alone old.pass new.pass is.1.entries is.1.stored
answered calls server asked (by.refused f) moment r old new is = nothing old new is.1

-- one for whose response memory was wanting
lacking : Calls → (b : By) (moment : ℕ) (old new : Hold) → LacksBy b moment old new → HoldsAdded old new
lacking calls by.view moment old new is = adds_none old.pass new.pass new.shelf.objects is.0
lacking calls (by.commit o) moment old new is =
    calls.commits is.0 moment o old.shelf.objects new.shelf.objects old.shelf.alone new.shelf.alone old.pass new.pass is.1.entries is.1.stored
lacking calls (by.refresh l) moment old new is = calls.refreshes is.0 l old.shelf.objects new.shelf.objects old.pass new.pass is.1.entries
lacking calls (by.edit e) moment old new is =
    calls.edits is.0 e old.shelf.objects new.shelf.objects old.shelf.alone new.shelf.alone old.pass new.pass is.1.entries is.1.stored
lacking calls (by.refused f) moment old new is = nothing old new is

responded : Calls → (server : Server) (t : Turn) (text : List ℕ) (old new : Side) → Responds server t text old new → Stood old.hold new.hold
responded calls server t text old new is =
    grown old.hold new.hold is.grew (answered calls server (request_of t) (by_request server (request_of t)) t.moment t.response old.hold new.hold is.answers)

in_part : Calls → (server : Server) (v : State) (new : Side) → RespondsInPart server v new → Stood v.side.hold new.hold
in_part calls server v new is = responded calls server is.0 is.1 v.side new is.4

refused : (v : State) (new : Side) → RefusesInPart v new → Stood v.side.hold new.hold
refused v new is = stood_still v.side.hold new.hold is.5.hold

wanting : Calls → (server : Server) (v : State) (new : Side) → WantsMemory server v new → Stood v.side.hold new.hold
wanting calls server v new is =
    grown v.side.hold new.hold is.3.grew (⊎_elim (nothing v.side.hold new.hold) (lacking calls (by_request server _) is.1 v.side.hold new.hold) is.3.lacks)

as_it_was : (v : State) (new : Side) → new ≡ v.side → Stood v.side.hold new.hold
as_it_was v new is = stood_still v.side.hold new.hold (ap (λ (s : Side). s.hold) is)

-- the end
ended : Calls → (server : Server) (v : State) (e : SessionEnd) (new : Side) → Ends server v e new → Stood v.side.hold new.hold
ended calls server v (end.Done served) new is = as_it_was v new is.0
ended calls server v (end.Truncated at served) new is = as_it_was v new is.0
ended calls server v (end.BadMessage at flaw served) new is = stood_still v.side.hold new.hold is.2.1.hold
ended calls server v (end.ReadFault served) new is = as_it_was v new is.0
ended calls server v (end.WriteFault served) new is = ⊎_elim (in_part calls server v new) (refused v new) is.1
ended calls server v (end.BodyCut served sent) new is = responded calls server is.1.0 _ v.side new is.1.3.responds
ended calls server v (end.NoMemory served) new is =
    ⊎_elim (as_it_was v new) (⊎_elim (in_part calls server v new) (⊎_elim (refused v new) (wanting calls server v new))) is.1

-- one turn after another
ran : Calls → (server : Server) (v : State) (turns : List Turn) (last : State) → Runs server v turns last → Stood v.side.hold last.side.hold
ran calls server v [] last r = stood_still v.side.hold last.side.hold (ap (λ (s : State). s.side.hold) r)
ran calls server v (t ∷ turns) last r =
    stood_on v.side.hold r.0.side.hold last.side.hold (responded calls server t _ v.side r.0.side r.1.responds) (ran calls server r.0 turns last r.2)

pub what_is_added_stands : CommitsStand → RefreshesStand → EditsStand → WhatIsAddedStands
what_is_added_stands commits refreshes edits server bytes left old new e s =
    let calls : Calls = record { commits = commits; refreshes = refreshes; edits = edits } in
    (stood_on old.hold s.1.side.hold new.hold (ran calls server _ s.0 s.1 s.2) (ended calls server s.1 e new s.4)).added
