-- A worker's lines, in order.
use Rattle.std.proofs.Common.{◌≡◌, ℕ, false, List, [], ◌∷◌, ◌++◌, map, Option, Some, None, refl, sym, ap, ◌∙◌, subst, append_assoc, true≢false}
use Rattle.std.specs.Option.{option_map}
use Rattle.std.proofs.lemmas.List.{append-nil}
use Rattle.edge_core.specs.Lines.{ClosedLine, Comes, with_line}
use Rattle.edge_core.proofs.Basics.{some_none}
use Rattle.share_serve.specs.Turns.{Grew, Hold}
use Rattle.share_serve.specs.declared.server.Server.{Server}
use Rattle.share_serve.proofs.Holds.{grew_itself, grew_on}
use Rattle.share_pool.specs.Laws.{Came, InOrder, LieInOrder}
use Rattle.share_pool.specs.Posts.{Post}
use Rattle.share_pool.specs.Visits.{Attended, Visit, closed_of}
use Rattle.share_pool.specs.Refreshing.{Refreshed}
use Rattle.share_pool.proofs.Refreshes.{refreshed_grew}

no_lines : (closed : Option (List ClosedLine)) → closed ≡ option_map (λ xs. xs ++ []) closed
no_lines None = refl
no_lines (Some xs) = ap Some (sym (append-nil xs))

more_lines : (closed : Option (List ClosedLine)) (c : ClosedLine) (cs : List ClosedLine) → option_map (λ xs. xs ++ cs) (with_line closed c) ≡ option_map (λ xs. xs ++ c ∷ cs) closed
more_lines None c cs = refl
more_lines (Some xs) c cs = ap Some (append_assoc xs (c ∷ []) cs)

none_came : (old : Option (List (List ℕ))) → Came old old []
none_came None = refl
none_came (Some lines) = ([], refl, refl, tt)

one_came : (old mid new : Option (List (List ℕ))) (v : Visit) (visits : List Visit) → Comes old mid v.bytes v.before.written → Came mid new visits → Came old new (v ∷ visits)
one_came None None new v visits comes came = came
one_came None (Some mid) new v visits comes came = absurd (some_none mid comes)
one_came (Some lines) None new v visits comes came = absurd (true≢false comes)
one_came (Some lines) (Some mid) None v visits comes came = absurd (true≢false came)
one_came (Some lines) (Some mid) (Some rest) v visits comes came =
    (comes.0 ∷ came.0, comes.1 ∙ ap (λ z. comes.0 ∷ z) came.1, (λ i. comes.2 i ∷ came.2 i), (comes.3, came.3))

pub in_order : (server : Server) (old new : Post) (visits : List Visit) → old.hold.pass.holds ≡ false → Attended server old visits new → InOrder server old new visits
in_order server old new [] idle r = record {
  came = subst (λ (z : Post). Came old.coming z.coming []) (sym r) (none_came old.coming);
  closed = ap (λ (z : Post). z.closed) r ∙ no_lines old.closed;
  sessions = tt;
  order = ap (λ (z : Post). z.hold) r;
  grew = subst (λ (z : Post). Grew old.hold z.hold) (sym r) (grew_itself old.hold idle);
}
in_order server old new (v ∷ visits) idle r =
    let a = r.1.1 in
    let s = r.1.2 in
    let fresh : Refreshed v.lacked old.hold v.before.hold = subst (λ (h : Hold). Refreshed v.lacked h v.before.hold) a.hold s.refreshed in
    let grew : Grew old.hold r.0.hold = subst (Grew old.hold) (sym s.hold) (grew_on old.hold v.before.hold v.after.hold (refreshed_grew v.lacked old.hold v.before.hold fresh) s.grew) in
    let rest = in_order server r.0 new visits grew.pass.holds r.2 in record {
      came = one_came old.coming r.0.coming new.coming v visits (subst (λ (z : Option (List (List ℕ))). Comes old.coming z v.bytes v.before.written) (sym s.coming) a.comes) rest.came;
      closed = rest.closed ∙ ap (option_map (λ xs. xs ++ map closed_of visits)) (s.closed ∙ ap (λ z. with_line z (closed_of v)) a.closed) ∙ more_lines old.closed (closed_of v) (map closed_of visits);
      sessions = (s.session, s.cause, rest.sessions);
      order = (fresh, s.grew, subst (λ (h : Hold). LieInOrder h visits new.hold) s.hold rest.order);
      grew = grew_on old.hold r.0.hold new.hold grew rest.grew;
    }
