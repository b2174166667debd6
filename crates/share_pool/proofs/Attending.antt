-- One line, from its acceptance and the call that serves it.
use Rattle.std.proofs.Common.{◌≡◌, ◌||◌, ℕ, Bool, List, Option, refl, sym, subst}
use Rattle.edge_core.specs.Lines.{ClosedLine, Comes, closed_line, with_line}
use Rattle.share_serve.specs.Sessions.{HasCause, IsSession}
use Rattle.share_serve.specs.Sides.{side}
use Rattle.share_serve.specs.Turns.{Grew, Hold}
use Rattle.share_serve.specs.declared.serve.SessionEnd.{SessionEnd}
use Rattle.share_serve.specs.declared.server.Server.{Server}
use Rattle.share_pool.specs.Posts.{Post, post}
use Rattle.share_pool.specs.Refreshing.{Refreshed}
use Rattle.share_pool.specs.Visits.{Attends, ServesOne, lacks}

-- what is done once the line is there
module _ {server : Server} {coming coming' : Option (List (List ℕ))} {closed closed' : Option (List ClosedLine)} {moments moments' : Option (List ℕ)} (bytes left : Option (List ℕ)) (h h' h'' : Hold) (w w' : Option (List ℕ)) (k k' : List ℕ) (lacked lacking : Bool) (e : SessionEnd) (rd rd' wr wr' : ℕ) where
  pub serves : rd ≡ 0 → wr ≡ 0 → Refreshed lacked h h' → Grew h' h'' → HasCause e rd rd' wr wr' h'.shelf.objects h'.shelf.faults h''.shelf.faults → IsSession server bytes left (side moments h' w k) (side moments' h'' w' k') e
      → closed' ≡ with_line closed (closed_line w' rd' wr') → coming' ≡ coming → lacking ≡ (lacked || lacks e) → ServesOne server bytes w (post coming closed moments h) (post coming' closed' moments' h'') lacking
  serves rd0 wr0 fresh grew cause session closes stays is = (
    record { bytes = bytes; left = left; lacked = lacked; before = side moments h' w k; after = side moments' h'' w' k'; ended = e; reads = rd'; writes = wr' },
    refl,
    refl,
    record {
      clock = refl;
      refreshed = fresh;
      session = session;
      cause = subst (λ (z : ℕ). HasCause e 0 rd' z wr' h'.shelf.objects h'.shelf.faults h''.shelf.faults) wr0
          (subst (λ (z : ℕ). HasCause e z rd' wr wr' h'.shelf.objects h'.shelf.faults h''.shelf.faults) rd0 cause);
      grew = grew;
      closed = closes;
      coming = stays;
      moments = refl;
      hold = refl;
    },
    is,
  )

pub attends : (server : Server) (old there new : Post) (bytes written : Option (List ℕ)) (lacking : Bool) → Comes old.coming there.coming bytes written → there.closed ≡ old.closed → there.moments ≡ old.moments → there.hold ≡ old.hold
    → (s : ServesOne server bytes written there new lacking) → Attends server old s.0 new
attends server old there new bytes written lacking comes closed moments hold s = (
  there,
  record {
    comes = subst (λ (z : Option (List ℕ)). Comes old.coming there.coming z s.0.before.written) (sym s.1) (subst (λ (z : Option (List ℕ)). Comes old.coming there.coming bytes z) (sym s.2) comes);
    closed = closed;
    moments = moments;
    hold = hold;
  },
  s.3,
)
