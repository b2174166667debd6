-- A log that is loaded for an edit, within a turn.
use Rattle.std.proofs.Common.{◌≡◌, ℕ, ◌+◌, ◌-◌, ◌<◌, ◌≤◌, true, false, List, [], ◌∷◌, ◌++◌, length, get_or, set, Option, Some, None, sym, refl, ap, ◌∙◌, subst, arith, append_assoc, length-append, length-set}
use Rattle.std.specs.List.{list_any}
use Rattle.std.specs.Option.{IfSome}
use Rattle.std.proofs.lemmas.List.{append-nil, get_or_append_left, get_or-set_same}
use Rattle.share_catalog.specs.declared.edit.Edit.{Edit}
use Rattle.share_catalog.specs.Catalogue.{bound_location, refusal_of}
use Rattle.share_catalog.proofs.KeyTests.{bytes_refl}
use Rattle.share_book.specs.declared.entry.Entry.{Entry}
use Rattle.share_book.specs.declared.entry.LogStart.{LogStart}
use Rattle.share_book.specs.declared.entry.Act.{Act}
use Rattle.share_book.specs.declared.entry.Act.TheVariants.{Abort, FoundEdit, Load}
use Rattle.share_book.specs.BookView.{BookView}
use Rattle.share_book.specs.Books.{OthersRest, edited, loaded, rests}
use Rattle.share_book.specs.History.{edit_in, edit_of, edits, entry, open_on, pending, start_in, starts}
use Rattle.share_book.specs.Legal.{Follows, IsLegal, TakesLog, There, has_log, is_at}
use Rattle.share_book.proofs.Rests.{follows_none, has_begun, pending_push, settled}
use Rattle.share_book.proofs.Words.{loud, open_same, quiet}
use Rattle.hub_catalog.specs.declared.catalog_turns.Published.{Published}
use Rattle.hub_catalog.specs.declared.catalog_turns.Published.TheVariants as published
use Rattle.hub_catalog.specs.CatalogTurns.{GoesOn, IsReadyFor, Publishes, LoadFits, load_entries, loading, located_by}
use Rattle.hub_catalog.proofs.Limits.{any_end, room_for_log}

-- an act after the log that was loaded for it
pub loaded_then : (h : List Entry) (k : ℕ) (l : Option LogStart) (a : Act) → (h ++ load_entries k l) ++ entry k 0 a ∷ [] ≡ h ++ loading k l a
loaded_then h k None a = ap (λ (x : List Entry). x ++ entry k 0 a ∷ []) (append-nil h)
loaded_then h k (Some s) a = append_assoc h (entry k 0 (Load s) ∷ []) (entry k 0 a ∷ [])

pub takes_log : (b : BookView) (e : Edit) (s : LogStart) → IsLegal b.past.history → rests b ≡ true → refusal_of (edits b.past.history) e ≡ None → LoadFits b.past.history e (Some s) → TakesLog b.past.history 0 s
takes_log b e s legal r a f = (refl, room_for_log b.past.history e s.location legal (settled b r) a f.0 f.1, f.1, f.2)

located_if : (h : List Entry) (o : Option (List ℕ)) → located_by h o ≡ true → IfSome o (λ l. has_log h l ≡ true)
located_if h None e = tt
located_if h (Some l) e = e

located_now : (h : List Entry) (o : Option (List ℕ)) (l : List ℕ) → o ≡ Some l → has_log h l ≡ true → IfSome o (λ y. has_log h y ≡ true)
located_now h None l e t = tt
located_now h (Some m) l e t = let same : m ≡ l = cc e in ap (has_log h) same ∙ t

binds_after : (o : Option LogStart) (s : LogStart) (a : Act) (e : Edit) → o ≡ Some s → bound_location e ≡ Some s.location → edit_of a ≡ Some e → Follows o a
binds_after None s a e q b i = tt
binds_after (Some t) s a e q b i = let same : t ≡ s = cc q in subst (λ (x : Option Edit). There x (λ y. bound_location y ≡ Some t.location)) (sym i) (b ∙ ap (λ (x : LogStart). Some x.location) (sym same))

pub ready_none : (k : ℕ) (e : Edit) (b : BookView) → 0 < length b.past.rooms → rests b ≡ true → open_on 0 b.past.history ≡ Some k → LoadFits b.past.history e None → OthersRest 0 b → IsReadyFor k e None b b
ready_none k e b n r o f w =
    let room = has_begun b k r n o in
    let three = room.0 in
    record {
      history = sym (append-nil b.past.history);
      edits = refl;
      holder = o;
      located = located_if b.past.history (bound_location e) f;
      follows = λ a i. follows_none (pending b.past.history) a (settled b r);
      lines = n;
      room = omega arith;
      spare = room.1;
      others = w;
    }

pub ready_some : (k : ℕ) (e : Edit) (s : LogStart) (b b' : BookView) → 0 < length b.past.rooms → rests b ≡ true → open_on 0 b.past.history ≡ Some k → LoadFits b.past.history e (Some s) → b' ≡ loaded b k s → OthersRest 0 b' → IsReadyFor k e (Some s) b b'
ready_some k e s b b' n r o f q w =
    let h = b.past.history in
    let x : Entry = entry k 0 (Load s) in
    let room = has_begun b k r n o in
    let three = room.0 in
    let qh : b'.past.history ≡ h ++ x ∷ [] = ap (λ (y : BookView). y.past.history) q in
    let less : List ℕ = set b.past.rooms 0 (get_or b.past.rooms 0 0 - 1) in
    let qr : b'.past.rooms ≡ less ++ 0 ∷ [] = ap (λ (y : BookView). y.past.rooms) q in
    let len : length less ≡ length b.past.rooms = length-set b.past.rooms 0 (get_or b.past.rooms 0 0 - 1) in
    let more : length (less ++ 0 ∷ []) ≡ length less + 1 = length-append less (0 ∷ []) in
    let first : get_or (less ++ 0 ∷ []) 0 0 ≡ get_or b.past.rooms 0 0 - 1 = get_or_append_left less (0 ∷ []) 0 0 (omega arith) ∙ get_or-set_same b.past.rooms 0 (get_or b.past.rooms 0 0 - 1) 0 n in
    let two : 2 ≤ get_or (less ++ 0 ∷ []) 0 0 = omega arith in
    let some : 0 < length (less ++ 0 ∷ []) = omega arith in
    record {
      history = qh;
      edits = ap edits qh ∙ quiet edit_in h x refl;
      holder = ap (open_on 0) qh ∙ (open_same 0 h x refl ∙ o);
      located = located_now b'.past.history (bound_location e) s.location f.0 (ap (λ (y : List Entry). has_log y s.location) qh ∙ (ap (λ (y : List LogStart). list_any (is_at s.location) y) (loud start_in h x s refl) ∙ any_end (is_at s.location) (starts h) s (bytes_refl s.location)));
      follows = λ a i. binds_after (pending b'.past.history) s a e (ap pending qh ∙ pending_push h x) f.0 i;
      lines = subst (λ (y : List ℕ). 0 < length y) (sym qr) some;
      room = subst (λ (y : List ℕ). 2 ≤ get_or y 0 0) (sym qr) two;
      spare = subst (λ (y : BookView). 1 ≤ y.edit_room) (sym q) room.1;
      others = w;
    }

-- after a found edit there is room for one entry more, and the Begin is still open
pub found_left : (b b' : BookView) (k : ℕ) (e : Edit) → 2 ≤ get_or b.past.rooms 0 0 → 0 < length b.past.rooms → b' ≡ edited b k false e
    → (1 ≤ get_or b'.past.rooms 0 0) × (open_on 0 b'.past.history ≡ open_on 0 b.past.history) × (pending b'.past.history ≡ None)
found_left b b' k e r n q =
    let room : get_or b'.past.rooms 0 0 ≡ get_or b.past.rooms 0 0 - 1 = ap (λ (x : BookView). get_or x.past.rooms 0 0) q ∙ get_or-set_same b.past.rooms 0 (get_or b.past.rooms 0 0 - 1) 0 n in
    (omega arith, ap (λ (x : BookView). open_on 0 x.past.history) q ∙ open_same 0 b.past.history (entry k 0 (FoundEdit e)) refl, ap (λ (x : BookView). pending x.past.history) q ∙ pending_push b.past.history (entry k 0 (FoundEdit e)))

found_at : (k : ℕ) (e : Edit) (l : Option LogStart) (b b' b'' : BookView) → IsReadyFor k e l b b' → b'' ≡ edited b' k false e → b''.past.history ≡ b.past.history ++ loading k l (FoundEdit e)
found_at k e l b b' b'' r q = ap (λ (x : BookView). x.past.history) q ∙ (ap (λ (h : List Entry). h ++ entry k 0 (FoundEdit e) ∷ []) r.history ∙ loaded_then b.past.history k l (FoundEdit e))

-- a found edit after the log that it needs, and then room for the next or an end
pub publishes_in : (r : Published) (k : ℕ) (e : Edit) (l : Option LogStart) (b b' b'' : BookView) (h : List Entry) → IsReadyFor k e l b b' → b'' ≡ edited b' k false e → GoesOn r k b''.past.history h → Publishes r k e l b.past.history h
publishes_in (published.Open n) k e l b b' b'' h r q g = (g.0 ∙ found_at k e l b b' b'' r q, g.1 ∙ ap (λ (x : List Entry). length (edits x)) (sym g.0))
publishes_in published.NoMemory k e l b b' b'' h r q g = g ∙ (ap (λ (x : List Entry). x ++ entry k 0 Abort ∷ []) (found_at k e l b b' b'' r q) ∙ append_assoc b.past.history (loading k l (FoundEdit e)) (entry k 0 Abort ∷ []))
