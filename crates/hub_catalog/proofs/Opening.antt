-- A book that is read from a store.
use Rattle.std.proofs.Common.{◌≡◌, ℕ, List, [], ◌∷◌, ◌++◌, length, map, Option, Some, true, sym, ap, ◌∙◌, subst, append_assoc, arith}
use Rattle.std.proofs.lemmas.List.{append-nil}
use Rattle.edge_core.specs.Objects.{Grows, Objects}
use Rattle.edge_core.proofs.Growth.{Grows-itself}
use Rattle.share_catalog.specs.declared.edit.Edit.{Edit}
use Rattle.share_book.specs.BookView.{BookView}
use Rattle.share_book.specs.Books.{rests}
use Rattle.share_book.specs.declared.entry.Entry.{Entry}
use Rattle.share_book.specs.declared.entry.Act.TheVariants.{Begin, FoundEdit}
use Rattle.share_book.specs.History.{edits, entry, open_on}
use Rattle.hub_catalog.specs.CatalogTurns.{loading}
use Rattle.hub_catalog.specs.CatalogCalls.{Step, edit_in, finds}
use Rattle.hub_catalog.specs.Edits.{AreSteps, IsStep}
use Rattle.hub_catalog.specs.Opens.{AddsIn, IsNoOpening, PublishesIn}
use Rattle.hub_catalog.specs.declared.open.Added.{Added}
use Rattle.hub_catalog.specs.declared.open.Added.TheVariants as added
use Rattle.hub_catalog.specs.declared.open.OpenRefusal.{OpenRefusal}
use Rattle.hub_catalog.proofs.CatalogPasses.{edits_found, open_found}
use Rattle.hub_catalog.proofs.Rounding.{finds_more, step_wider, steps_append, steps_wider}

open_finds : (h : List Entry) (k : ℕ) (xs : List Step) → open_on 0 (h ++ finds k xs) ≡ open_on 0 h
open_finds h k [] = ap (open_on 0) (append-nil h)
open_finds h k (x ∷ xs) = ap (open_on 0) (sym (append_assoc h (loading k x.load (FoundEdit x.edit)) (finds k xs))) ∙ (open_finds (h ++ loading k x.load (FoundEdit x.edit)) k xs ∙ open_found h k x.load x.edit)

pub edits_finds : (h : List Entry) (k : ℕ) (xs : List Step) → edits (h ++ finds k xs) ≡ edits h ++ map edit_in xs
edits_finds h k [] = ap edits (append-nil h) ∙ sym (append-nil (edits h))
edits_finds h k (x ∷ xs) =
    ap edits (sym (append_assoc h (loading k x.load (FoundEdit x.edit)) (finds k xs)))
    ∙ (edits_finds (h ++ loading k x.load (FoundEdit x.edit)) k xs
    ∙ (ap (λ (l : List Edit). l ++ map edit_in xs) (edits_found h k x.load x.edit) ∙ append_assoc (edits h) (x.edit ∷ []) (map edit_in xs)))

-- the caller's Begin is open after the edits that it found
pub holds : (h : List Entry) (xs : List Step) → h ≡ entry 0 0 Begin ∷ finds 0 xs → open_on 0 h ≡ Some 0
holds h xs e = ap (open_on 0) e ∙ open_finds (entry 0 0 Begin ∷ []) 0 xs

edits_held : (h : List Entry) (xs : List Step) → h ≡ entry 0 0 Begin ∷ finds 0 xs → edits h ≡ map edit_in xs
edits_held h xs e = ap edits e ∙ edits_finds (entry 0 0 Begin ∷ []) 0 xs

pub one_held : (h h' : List Entry) (xs : List Step) (x : Step) → h ≡ entry 0 0 Begin ∷ finds 0 xs → h' ≡ h ++ loading 0 x.load (FoundEdit x.edit) → h' ≡ entry 0 0 Begin ∷ finds 0 (xs ++ x ∷ [])
one_held h h' xs x e f =
    f ∙ (ap (λ (l : List Entry). l ++ loading 0 x.load (FoundEdit x.edit)) e ∙ ap (λ (l : List Entry). entry 0 0 Begin ∷ l) (ap (λ (l : List Entry). finds 0 xs ++ l) (sym (append-nil (loading 0 x.load (FoundEdit x.edit)))) ∙ sym (finds_more 0 xs (x ∷ []))))

pub steps_held : (n : ℕ) (old mid new : Option Objects) (xs : List Step) (x : Step) → length xs ≡ n → AreSteps old mid 0 xs → Grows old mid → Grows mid new → IsStep mid new n x → AreSteps old new 0 (xs ++ x ∷ [])
steps_held n old mid new xs x e a g1 g2 w = steps_append old new 0 n xs (x ∷ []) (omega arith) (steps_wider old old mid new 0 xs (Grows-itself old) g2 a) (step_wider old mid new new n x g1 (Grows-itself new) w, tt)

pub no_opening : (r : OpenRefusal) (n : ℕ) (new : Option Objects) (h : List Entry) (xs : List Step) → h ≡ entry 0 0 Begin ∷ finds 0 xs → length xs ≡ n → IsNoOpening r n new (edits h) → IsNoOpening r (length xs) new (map edit_in xs)
no_opening r n new h xs e k w = subst (λ (m : ℕ). IsNoOpening r m new (map edit_in xs)) (sym k) (subst (λ (es : List Edit). IsNoOpening r n new es) (edits_held h xs e) w)

pub added_in : (r : Added) (x : Step) (n : ℕ) (old new : Option Objects) (h h' : List Entry) → PublishesIn r x h h' → IsStep old new n x → AddsIn r n old new h h'
added_in added.Found x n old new h h' w i = (x, w, i)
added_in added.Absent x n old new h h' w i = absurd w
added_in (added.Failed r) x n old new h h' w i = subst (λ (y : OpenRefusal). IsNoOpening y n new (edits h)) (sym w) tt

pub adds_wider : (r : Added) (n : ℕ) (old mid new : Option Objects) (h h' : List Entry) → Grows old mid → AddsIn r n mid new h h' → AddsIn r n old new h h'
adds_wider added.Found n old mid new h h' g w = (w.0, w.1, step_wider old mid new new n w.0 g (Grows-itself new) w.2)
adds_wider added.Absent n old mid new h h' g w = w
adds_wider (added.Failed r) n old mid new h h' g w = w

-- a book of no entries rests
pub fresh_rests : (b : BookView) → b ≡ record { past = record { history = []; rooms = 0 ∷ []; log_room = 0 }; edit_room = 0; commit_rooms = [] } → rests b ≡ true
unfolding rests
fresh_rests b e = ap rests e
