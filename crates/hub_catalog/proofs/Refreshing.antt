-- Refreshes of the catalogue.
use Rattle.std.proofs.Common.{◌≡◌, ℕ, ◌+◌, ◌<◌, ◌≤◌, List, [], ◌∷◌, ◌++◌, length, Option, Some, None, Result, Ok, Err, sym, refl, ap, ◌∙◌, subst, inl, inr, arith, length-append}
use Rattle.std.proofs.lemmas.List.{append-nil}
use Rattle.std.specs.Prelude.{IsSome}
use Rattle.std.specs.FinMap as finmap
use mathlib.Core.List.{IsPrefix}
use Rattle.edge_core.specs.Objects.{Grows, Lacks, Objects}
use Rattle.edge_core.proofs.Growth.{Grows-itself}
use Rattle.catalog_log.specs.RecordNames.{record_name_of}
use Rattle.share_book.specs.declared.entry.Entry.{Entry}
use Rattle.share_book.specs.declared.entry.Act.TheVariants.{Abort, Begin}
use Rattle.share_book.specs.History.{edits, entry}
use Rattle.hub_calls.specs.Calls.{Adds, P}
use Rattle.hub_catalog.specs.CatalogCalls.{BeginsAt, Goes, Step, Stops, finds}
use Rattle.hub_catalog.specs.Edits.{AreSteps, Ran, RefusesWith}
use Rattle.hub_catalog.specs.Rounds.{Nexts, OneFound}
use Rattle.hub_catalog.specs.Refreshes.{IsEarly, IsThere, Refreshes, RefreshesBegun, RefreshesOn, Tells}
use Rattle.hub_catalog.specs.declared.found.CatalogRefusal.{CatalogRefusal}
use Rattle.hub_catalog.specs.declared.found.CatalogRefusal.TheVariants as refusal
use Rattle.hub_catalog.specs.declared.found.Next.TheVariants as next
use Rattle.hub_catalog.specs.declared.refresh_catalog.RefreshedCatalog.{RefreshedCatalog}
use Rattle.hub_calls.proofs.Passes.{prefix_more}
use Rattle.hub_catalog.proofs.Rounding.{count_found, goes_stops, last_is, ran, steps_append, steps_wider}

few_tells : (y : CatalogRefusal) (new : Option Objects) (q : P) (m t i : ℕ) → t < 64 → i ≡ t + m → RefusesWith y new q → OneFound y m → Tells (Err y) new q i
few_tells (refusal.Blocked n) new q m t i l s w o = (w, (let z : m ≡ 0 = o in omega arith))
few_tells refusal.StoreFault new q m t i l s w o = (tt, (let z : m ≡ 0 = o in omega arith))
few_tells refusal.NoMemory new q m t i l s w o = (tt, (let z : m ≤ 1 = o in omega arith))

-- found edits, and then a step that ended
pub refresh_ends : (y : CatalogRefusal) (n : ℕ) (old mid new : Option Objects) (p q s : P) (found : List Step) → q.number ≡ p.number → n ≡ length (edits q.seen) → length found < 64 → Goes p q found → AreSteps old mid (length (edits p.seen)) found → Grows old mid → Grows mid new → Nexts (next.End y) n mid new q s → RefreshesOn (Err y) old new p s
refresh_ends y n old mid new p q s found k c l g a g1 g2 w =
    let i : length (found ++ w.0) ≡ length found + length w.0 = length-append found w.0 in (
      found ++ w.0,
      goes_stops p q s found w.0 None Abort k g w.1,
      steps_append old new (length (edits p.seen)) n found w.0 (c ∙ count_found p q found g) (steps_wider old old mid new (length (edits p.seen)) found (Grows-itself old) g2 a) (steps_wider old mid new new n w.0 g1 (Grows-itself new) w.2),
      few_tells y new s (length w.0) (length found) (length (found ++ w.0)) l i w.3 w.4,
    )

-- found edits, and then Abort
pub refresh_done : (n t : ℕ) (old mid new : Option Objects) (p q q' s : P) (found : List Step) → q' ≡ q → q.number ≡ p.number → s.number ≡ q'.number → n ≡ length (edits q.seen) → length found ≡ t → t ≤ 64 → Goes p q found → AreSteps old mid (length (edits p.seen)) found → Grows mid new → (t < 64 → Lacks (record_name_of n) new) → Stops q' s [] None Abort → RefreshesOn (Ok (record { edits = n; found = t })) old new p s
refresh_done n t old mid new p q q' s found same k k' c e m g a g2 lacks w =
    let w' : Stops q s [] None Abort = subst (λ (x : P). Stops x s [] None Abort) same w in
    let k2 : s.number ≡ q.number = k' ∙ ap (λ (x : P). x.number) same in (
      found,
      subst (λ (xs : List Step). Stops p s xs None Abort) (append-nil found) (goes_stops p q s found [] None Abort k g w'),
      steps_wider old old mid new (length (edits p.seen)) found (Grows-itself old) g2 a,
      (sym e, subst (λ (i : ℕ). i ≤ 64) (sym e) m, last_is q s None Abort (λ es. n ≡ length es) k2 w' c, λ l. lacks (subst (λ (i : ℕ). i < 64) e l)),
    )

pub refresh_run : (r : Result RefreshedCatalog CatalogRefusal) (old new : Option Objects) (from : List Entry) (p q s : P) (n : ℕ) → q.number ≡ p.number → BeginsAt from p q n → IsPrefix q.seen s.seen → RefreshesOn r old new q s → RefreshesBegun r old new p s
refresh_run r old new from p q s n k b i w = inr (w.0, ran old new from p q s n w.0 None Abort k b i w.1 w.2, w.3)

pub early : (r : RefreshedCatalog) (new : Option Objects) (p q : P) → Adds p q [] → (r.found ≡ 0) → r.edits ≡ length (edits q.seen) → Lacks (record_name_of r.edits) new → (old : Option Objects) → Refreshes (Ok r) old new p q
early r new p q a f e l old = inl (a, (f, e, l))

adds_after : (p q s : P) (f : ℕ → List Entry) → q.number ≡ p.number → Adds p q [] → Adds q s (f q.number) → Adds p s (f p.number)
adds_after p q s f n a b = b ∙ (λ i. (a ∙ append-nil _) i ++ f (n i))

-- a run after a turn in which nothing was added
ran_after : (old mid new : Option Objects) (p q s : P) (found : List Step) → q.number ≡ p.number → IsPrefix p.seen q.seen → Grows old mid → Adds p q [] → Ran mid new q s found None Abort → Ran old new p s found None Abort
ran_after old mid new p q s found k i g a r = record {
  from = r.from;
  after = prefix_more p.seen q.seen r.from i r.after;
  begun = subst (λ (j : ℕ). IsPrefix (r.from ++ entry j 0 Begin ∷ []) s.seen) k r.begun;
  added = adds_after p q s (λ j. entry j 0 Begin ∷ finds j found ++ entry j 0 Abort ∷ []) k a r.added;
  before = r.before;
  last = r.last ∙ ap (λ (j : ℕ). r.before ++ entry j 0 Abort ∷ []) k;
  steps = steps_wider old mid new new (length (edits r.from)) found g (Grows-itself new) r.steps;
  edits = r.edits;
}

pub refreshes : (r : Result RefreshedCatalog CatalogRefusal) (n : ℕ) (old mid new : Option Objects) (p q s : P) → q.number ≡ p.number → IsPrefix p.seen q.seen → IsPrefix q.seen s.seen → n ≡ length (edits q.seen) → Grows old mid → Grows mid new → Adds p q [] → IsThere mid n → RefreshesBegun r mid new q s → Refreshes r old new p s
refreshes r n old mid new p q s k i i2 c g g2 a t (inl w) = inl (adds_after p q s (λ j. []) k a w.0, subst (λ (x : Result RefreshedCatalog CatalogRefusal). IsEarly x new s) (sym w.1) tt)
refreshes r n old mid new p q s k i i2 c g g2 a t (inr w) =
    inr ((w.0, ran_after old mid new p q s w.0 k i g a w.1, w.2), (q.seen, i, i2, subst (λ (m : ℕ). IsThere new m) c (there_grown mid new n g2 t)))
  where
    stays : (x y : Option (List ℕ)) → ((bytes : List ℕ) → x ≡ Some bytes → y ≡ Some bytes) → IsSome x → IsSome y
    stays None y f v = absurd (cc v)
    stays (Some bytes) y f v = subst (λ (o : Option (List ℕ)). IsSome o) (sym (f bytes refl)) refl

    there_grown : (x y : Option Objects) (m : ℕ) → Grows x y → IsThere x m → IsThere y m
    there_grown x None m f v = tt
    there_grown None (Some y) m f v = absurd (cc f)
    there_grown (Some x) (Some y) m f v = stays (finmap.get x (record_name_of m)) (finmap.get y (record_name_of m)) (λ bytes e. f (record_name_of m) bytes e) v
