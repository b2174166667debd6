-- Rounds on the catalogue, one after another.
use Rattle.std.proofs.Common.{◌≡◌, ℕ, ◌+◌, ◌<◌, ◌≤◌, List, [], ◌∷◌, ◌++◌, length, map, Option, Some, None, Result, Ok, Err, sym, refl, ap, ◌∙◌, subst, inl, inr, append_assoc, arith, length-append}
use Rattle.std.proofs.lemmas.List.{append-nil, map-append, length-map}
use mathlib.Core.List.{IsPrefix}
use Rattle.edge_core.specs.Objects.{Grows, Lacks, Objects}
use Rattle.edge_core.proofs.Growth.{Between-on, Grows-absent, Grows-itself, Grows-on}
use Rattle.std.specs.FinMap as finmap
use Rattle.std.specs.Prelude.{IfSome, IsSome, option_map}
use Rattle.catalog_log.specs.RecordNames.{record_name_of}
use Rattle.catalog_log.specs.declared.fault.RecordFault.{RecordFault}
use Rattle.turn_cell.specs.Passes.{mine}
use Rattle.share_catalog.specs.declared.edit.Edit.{Edit}
use Rattle.share_catalog.specs.declared.edit.EditRefusal.{EditRefusal}
use Rattle.share_catalog.specs.Catalogue.{refusal_of}
use Rattle.share_book.specs.declared.entry.Entry.{Entry}
use Rattle.share_book.specs.declared.entry.LogStart.{LogStart}
use Rattle.share_book.specs.declared.entry.Act.{Act}
use Rattle.share_book.specs.declared.entry.Act.TheVariants.{Begin, OwnEdit, FoundEdit, Abort}
use Rattle.share_book.specs.History.{caller_of, edits, entry}
use Rattle.share_book.specs.Legal.{There}
use Rattle.hub_catalog.specs.declared.found.CatalogRefusal.{CatalogRefusal}
use Rattle.hub_catalog.specs.declared.found.CatalogRefusal.TheVariants as refusal
use Rattle.hub_catalog.specs.declared.edit.EditEnd.{EditEnd}
use Rattle.hub_catalog.specs.declared.edit.EditEnd.TheVariants as end
use Rattle.hub_catalog.specs.declared.edit.Round.{Round}
use Rattle.hub_catalog.specs.declared.edit.Round.TheVariants as round
use Rattle.hub_calls.specs.Calls.{P}
use Rattle.hub_catalog.specs.CatalogTurns.{LoadOf, loading, start_from}
use Rattle.hub_catalog.specs.CatalogCalls.{BeginsAt, Goes, Step, Stops, edit_in, finds}
use Rattle.hub_catalog.specs.Records.{HasRecord, record_at, stored_record}
use Rattle.hub_catalog.specs.declared.found.Next.{Next}
use Rattle.hub_catalog.specs.declared.found.Next.TheVariants as next
use Rattle.log_store.specs.declared.refusal.LoadRefusal.{LoadRefusal}
use Rattle.log_store.specs.declared.refusal.LoadRefusal.TheVariants as load
use Rattle.hub_catalog.specs.Edits.{AreSteps, Blocks, Edits, EndsWith, IsNotTaken, IsStep, LastIs, Ran, failed_edit, failed_refusal}
use Rattle.hub_catalog.specs.Rounds.{EndsRound, Nexts, PublishesNext, Rounds, RunsOn, end_by, refusal_by}
use Rattle.hub_calls.proofs.Passes.{adds_more}

pub finds_more : (k : ℕ) (xs ys : List Step) → finds k (xs ++ ys) ≡ finds k xs ++ finds k ys
finds_more k [] ys = refl
finds_more k (x ∷ xs) ys = ap (λ (l : List Entry). loading k x.load (FoundEdit x.edit) ++ l) (finds_more k xs ys) ∙ sym (append_assoc (loading k x.load (FoundEdit x.edit)) (finds k xs) (finds k ys))

edits_more : (a b c : List Edit) (xs ys : List Step) → b ≡ a ++ map edit_in xs → c ≡ b ++ map edit_in ys → c ≡ a ++ map edit_in (xs ++ ys)
edits_more a b c xs ys e f = f ∙ (ap (λ (l : List Edit). l ++ map edit_in ys) e ∙ (append_assoc a (map edit_in xs) (map edit_in ys) ∙ ap (λ (l : List Edit). a ++ l) (sym (map-append edit_in xs ys))))

pub goes_more : (p q r : P) (xs ys : List Step) → q.number ≡ p.number → Goes p q xs → Goes q r ys → Goes p r (xs ++ ys)
goes_more p q r xs ys n a b = record {
  added = adds_more p q r (finds p.number xs) (finds p.number ys) a.added (b.added ∙ ap (λ (k : ℕ). mine caller_of q ++ finds k ys) n) ∙ ap (λ (l : List Entry). mine caller_of p ++ l) (sym (finds_more p.number xs ys));
  holder = b.holder;
  edits = edits_more (edits p.seen) (edits q.seen) (edits r.seen) xs ys a.edits b.edits;
}

pub goes_stops : (p q r : P) (xs ys : List Step) (l : Option LogStart) (x : Act) → q.number ≡ p.number → Goes p q xs → Stops q r ys l x → Stops p r (xs ++ ys) l x
goes_stops p q r xs ys l x n a b = record {
  added =
      adds_more p q r (finds p.number xs) (finds p.number ys ++ loading p.number l x) a.added (b.added ∙ ap (λ (k : ℕ). mine caller_of q ++ (finds k ys ++ loading k l x)) n)
      ∙ ap (λ (y : List Entry). mine caller_of p ++ y) (sym (append_assoc (finds p.number xs) (finds p.number ys) (loading p.number l x)) ∙ ap (λ (y : List Entry). y ++ loading p.number l x) (sym (finds_more p.number xs ys)));
  before = b.before;
  last = b.last ∙ ap (λ (k : ℕ). b.before ++ entry k 0 x ∷ []) n;
  edits = edits_more (edits p.seen) (edits q.seen) (edits b.before) xs ys a.edits b.edits;
}

-- ---- what the store has

pub record_grown : (a b : Option Objects) (n : ℕ) (x : Edit) → Grows a b → HasRecord a n x → HasRecord b n x
record_grown a None n x g h = tt
record_grown None (Some ys) n x g h = absurd (cc g)
record_grown (Some xs) (Some ys) n x g h = kept (finmap.get xs (record_name_of n)) (finmap.get ys (record_name_of n)) (λ bytes is. g (record_name_of n) bytes is) h
  where
    kept : (r s : Option (List ℕ)) → ((bytes : List ℕ) → r ≡ Some bytes → s ≡ Some bytes) → option_map stored_record r ≡ Some (Ok x) → option_map stored_record s ≡ Some (Ok x)
    kept None s f e = absurd cc
    kept (Some bytes) s f e = ap (option_map stored_record) (f bytes refl) ∙ e

pub load_wider : (a b c d : Option Objects) (e : Edit) (l : Option LogStart) → Grows a b → Grows c d → LoadOf b c e l → LoadOf a d e l
load_wider a b c d e None g h w = tt
load_wider a b c d e (Some s) g h w = (w.0, Between-on a b c d (λ os. s ≡ start_from s.location os) g w.1 h)

pub step_wider : (a b c d : Option Objects) (n : ℕ) (x : Step) → Grows a b → Grows c d → IsStep b c n x → IsStep a d n x
step_wider a b c d n x g h w = (record_grown c d n x.edit h w.0, load_wider a b c d x.edit x.load g h w.1)

pub steps_wider : (a b c d : Option Objects) (n : ℕ) (xs : List Step) → Grows a b → Grows c d → AreSteps b c n xs → AreSteps a d n xs
steps_wider a b c d n [] g h w = tt
steps_wider a b c d n (x ∷ xs) g h w = (step_wider a b c d n x g h w.0, steps_wider a b c d (n + 1) xs g h w.1)

pub steps_append : (a b : Option Objects) (n m : ℕ) (xs ys : List Step) → m ≡ n + length xs → AreSteps a b n xs → AreSteps a b m ys → AreSteps a b n (xs ++ ys)
steps_append a b n m [] ys e f g = subst (λ (i : ℕ). AreSteps a b i ys) (e ∙ omega arith) g
steps_append a b n m (x ∷ xs) ys e f g = (f.0, steps_append a b (n + 1) m xs ys (omega arith) f.1 g)

pub count_found : (p q : P) (xs : List Step) → Goes p q xs → length (edits q.seen) ≡ length (edits p.seen) + length xs
count_found p q xs g = ap (λ (l : List Edit). length l) g.edits ∙ (length-append (edits p.seen) (map edit_in xs) ∙ ap (λ (n : ℕ). length (edits p.seen) + n) (length-map xs edit_in))

-- ---- the ends

pub last_is : (p q : P) (l : Option LogStart) (a : Act) (Q : List Edit → Type 0) → q.number ≡ p.number → Stops p q [] l a → Q (edits p.seen) → LastIs q a Q
last_is p q l a Q n s w = record {
  before = s.before;
  last = s.last ∙ ap (λ (k : ℕ). s.before ++ entry k 0 a ∷ []) (sym n);
  told = subst Q (sym (s.edits ∙ append-nil (edits p.seen))) w;
}

pub blocks_bad : (o : Option Objects) (n : ℕ) (es : List Edit) (f : RecordFault) → IfSome o (λ os. record_at os n ≡ Some (Err f)) → Blocks o n es
blocks_bad None n es f w = tt
blocks_bad (Some os) n es f w = subst (λ (r : Option (Result Edit RecordFault)). There r (IsNotTaken es)) (sym w) tt

pub blocks_refused : (o : Option Objects) (n : ℕ) (es : List Edit) (e : Edit) (r : EditRefusal) → HasRecord o n e → refusal_of es e ≡ Some r → Blocks o n es
blocks_refused None n es e r w f = tt
blocks_refused (Some os) n es e r w f = subst (λ (x : Option (Result Edit RecordFault)). There x (IsNotTaken es)) (sym w) (subst (λ (x : Option EditRefusal). IsSome x) (sym f) refl)

some_none : (r s : Option (List ℕ)) → ((bytes : List ℕ) → r ≡ Some bytes → s ≡ Some bytes) → IsSome r → s ≡ None → ⊥
some_none None s f i n = cc i
some_none (Some bytes) s f i n = cc (f bytes refl, n)

-- a record that was there doesn't go
pub blocks_gone : (a b : Option Objects) (n : ℕ) (es : List Edit) → Grows a b → IfSome a (λ os. IsSome (finmap.get os (record_name_of n))) → Lacks (record_name_of n) b → Blocks b n es
blocks_gone a None n es g i w = tt
blocks_gone None (Some y) n es g i w = absurd (cc g)
blocks_gone (Some x) (Some y) n es g i w = absurd (some_none (finmap.get x (record_name_of n)) (finmap.get y (record_name_of n)) (λ bytes is. g (record_name_of n) bytes is) i w)

-- ---- found edits

pub found_next : (r : Next) (x : Step) (n : ℕ) (old new : Option Objects) (p s q : P) → s.number ≡ p.number → Goes p s [] → PublishesNext r x s q → IsStep old new n x → Nexts r n old new p q
found_next (next.Found m) x n old new p s q k g w i = (x, goes_more p s q [] (x ∷ []) k g w.0, w.1, i)
found_next next.Absent x n old new p s q k g w i = absurd w
found_next (next.End (refusal.Blocked m)) x n old new p s q k g w i = absurd w
found_next (next.End refusal.StoreFault) x n old new p s q k g w i = absurd w
found_next (next.End refusal.NoMemory) x n old new p s q k g (inl w) i = ([], goes_stops p s q [] [] None Abort k g w, tt, tt, omega arith)
found_next (next.End refusal.NoMemory) x n old new p s q k g (inr w) i = (x ∷ [], goes_stops p s q [] (x ∷ []) None Abort k g w, (i, tt), tt, omega arith)

pub end_blocked : (r : Next) (n : ℕ) (old new : Option Objects) (p q : P) → r ≡ next.End (refusal.Blocked n) → q.number ≡ p.number → n ≡ length (edits p.seen) → Blocks new n (edits p.seen) → Stops p q [] None Abort → Nexts r n old new p q
end_blocked r n old new p q e k c b s = rw e ([], s, tt, last_is p q None Abort (λ es. (n ≡ length es) × Blocks new n es) k s (c, b), refl)

pub found_refused : (r : Next) (n : ℕ) (e : Edit) (f : EditRefusal) (old new : Option Objects) (p s q : P) → r ≡ next.End (refusal.Blocked n) → s.number ≡ p.number → q.number ≡ s.number → n ≡ length (edits p.seen) → Goes p s [] → HasRecord new n e → refusal_of (edits s.seen) e ≡ Some f → Stops s q [] None Abort → Nexts r n old new p q
found_refused r n e f old new p s q is k k' c g h w t =
    let same : edits s.seen ≡ edits p.seen = g.edits ∙ append-nil (edits p.seen) in
    end_blocked r n old new p q is (k' ∙ k) c (blocks_refused new n (edits p.seen) e f h (ap (λ (es : List Edit). refusal_of es e) (sym same) ∙ w)) (goes_stops p s q [] [] None Abort k g t)

pub nexts_wider : (r : Next) (n : ℕ) (old mid new : Option Objects) (p q : P) → Grows old mid → Nexts r n mid new p q → Nexts r n old new p q
nexts_wider (next.Found m) n old mid new p q g w = (w.0, w.1, w.2, step_wider old mid new new n w.0 g (Grows-itself new) w.3)
nexts_wider next.Absent n old mid new p q g w = w
nexts_wider (next.End y) n old mid new p q g w = (w.0, w.1, steps_wider old mid new new n w.0 g (Grows-itself new) w.2, w.3, w.4)

-- ---- own edits

pub nexts_end : (y : CatalogRefusal) (e : Edit) (n : ℕ) (old new : Option Objects) (p q : P) → Nexts (next.End y) n old new p q → Rounds (round.End (end_by y)) e n old new p q
nexts_end (refusal.Blocked m) e n old new p q w = (w.0, w.1, w.2, (w.3, w.4))
nexts_end refusal.StoreFault e n old new p q w = (w.0, w.1, w.2, w.4)
nexts_end refusal.NoMemory e n old new p q w = (w.0, w.1, w.2, w.4)

pub again_gone : (r : Round) (e : Edit) (n : ℕ) (old new : Option Objects) (p s q : P) → s ≡ p → r ≡ round.End (end.CatalogBlocked n) → q.number ≡ s.number → n ≡ length (edits p.seen) → Grows old new → IfSome old (λ os. IsSome (finmap.get os (record_name_of n))) → Lacks (record_name_of n) new → Stops s q [] None Abort → Rounds r e n old new p q
again_gone r e n old new p s q same is k c g i w t =
    let t' : Stops p q [] None Abort = subst (λ (x : P). Stops x q [] None Abort) same t in
    rw is ([], t', tt, (last_is p q None Abort (λ es. (n ≡ length es) × Blocks new n es) (k ∙ ap (λ (x : P). x.number) same) t' (c, blocks_gone old new n (edits p.seen) g i w), refl))

ends_wider : (y : EditEnd) (e : Edit) (old mid new : Option Objects) (q : P) (m : ℕ) → Grows old mid → EndsRound y e mid new q m → EndsRound y e old new q m
ends_wider (end.CatalogBlocked n) e old mid new q m g w = w
ends_wider end.Contended e old mid new q m g w = w
ends_wider (end.Refused r) e old mid new q m g w = (record { before = w.0.before; last = w.0.last; told = (w.0.told.0, Grows-absent old mid (record_name_of (length (edits w.0.before))) g w.0.told.1) }, w.1)
ends_wider end.StoreFault e old mid new q m g w = w
ends_wider end.NoMemory e old mid new q m g w = w

pub rounds_wider : (r : Round) (e : Edit) (n : ℕ) (old mid new : Option Objects) (p q : P) → Grows old mid → Rounds r e n mid new p q → Rounds r e n old new p q
rounds_wider (round.Found m) e n old mid new p q g w = (w.0, w.1, w.2, step_wider old mid new new n w.0 g (Grows-itself new) w.3)
rounds_wider round.Done e n old mid new p q g w = (w.0, w.1, load_wider old mid new new e w.0 g (Grows-itself new) w.2, w.3)
rounds_wider (round.End y) e n old mid new p q g w = (w.0, w.1, steps_wider old mid new new n w.0 g (Grows-itself new) w.2, ends_wider y e old mid new q (length w.0) g w.3)

pub rounds_goes : (r : Round) (e : Edit) (n : ℕ) (old new : Option Objects) (p s q : P) → s.number ≡ p.number → Goes p s [] → Rounds r e n old new s q → Rounds r e n old new p q
rounds_goes (round.Found m) e n old new p s q k g w = (w.0, goes_more p s q [] (w.0 ∷ []) k g w.1, w.2, w.3)
rounds_goes round.Done e n old new p s q k g w = (w.0, goes_stops p s q [] [] w.0 (OwnEdit e) k g w.1, w.2, w.3)
rounds_goes (round.End y) e n old new p s q k g w = (w.0, goes_stops p s q [] w.0 None Abort k g w.1, w.2, w.3)

pub rounds_same : (r : Round) (e : Edit) (n : ℕ) (old mid new : Option Objects) (p s q : P) → s ≡ p → Grows old mid → Rounds r e n mid new s q → Rounds r e n old new p q
rounds_same r e n old mid new p s q k g w = rounds_wider r e n old mid new p q g (subst (λ (x : P). Rounds r e n mid new x q) k w)

-- the edit was published after the log that it needs
pub own_done : (e : Edit) (l : Option LogStart) (n : ℕ) (old new : Option Objects) (p q : P) → q.number ≡ p.number → n ≡ length (edits p.seen) → Grows old new → Stops p q [] l (OwnEdit e) → (before : Option Objects) → Grows before old → LoadOf before old e l → Rounds round.Done e n before new p q
own_done e l n old new p q k c g s before h w = (l, s, load_wider before before old new e l (Grows-itself before) g w, last_is p q l (OwnEdit e) (λ es. n ≡ length es) k s c)

pub end_refused : (r : Round) (x : EditRefusal) (e : Edit) (n : ℕ) (old new : Option Objects) (p s q : P) → r ≡ round.End (end.Refused x) → s.number ≡ p.number → q.number ≡ s.number → n ≡ length (edits p.seen) → Goes p s [] → refusal_of (edits s.seen) e ≡ Some x → Lacks (record_name_of n) old → Stops s q [] None Abort → Rounds r e n old new p q
end_refused r x e n old new p s q is k k' c g f a t =
    let t' : Stops p q [] None Abort = goes_stops p s q [] [] None Abort k g t in
    let same : edits s.seen ≡ edits p.seen = g.edits ∙ append-nil (edits p.seen) in
    rw is ([], t', tt, (last_is p q None Abort (λ es. (refusal_of es e ≡ Some x) × Lacks (record_name_of (length es)) old) (k' ∙ k) t' (ap (λ (es : List Edit). refusal_of es e) (sym same) ∙ f, subst (λ (m : ℕ). Lacks (record_name_of m) old) c a), refl))

pub end_failed : (r : Round) (x : LoadRefusal) (e : Edit) (n : ℕ) (old new : Option Objects) (p s q : P) → r ≡ round.End (end_by (refusal_by x)) → s.number ≡ p.number → Goes p s [] → Stops s q [] None Abort → Rounds r e n old new p q
end_failed r load.StoreFault e n old new p s q is k g t = rw is ([], goes_stops p s q [] [] None Abort k g t, tt, refl)
end_failed r load.NoMemory e n old new p s q is k g t = rw is ([], goes_stops p s q [] [] None Abort k g t, tt, omega arith)

-- ---- runs

few_ends : (y : EditEnd) (e : Edit) (old new : Option Objects) (q : P) (m t i : ℕ) → t < 64 → i ≡ t + m → EndsRound y e old new q m → EndsWith y e old new q i
few_ends (end.CatalogBlocked n) e old new q m t i l s w = (w.0, (let z : m ≡ 0 = w.1 in omega arith))
few_ends end.Contended e old new q m t i l s w = absurd w
few_ends (end.Refused r) e old new q m t i l s w = (w.0, (let z : m ≡ 0 = w.1 in omega arith))
few_ends end.StoreFault e old new q m t i l s w = let z : m ≡ 0 = w in omega arith
few_ends end.NoMemory e old new q m t i l s w = let z : m ≤ 1 = w in omega arith

-- found edits, and then a round that ended
pub ends_after : (y : EditEnd) (e : Edit) (n : ℕ) (old mid new : Option Objects) (p q s : P) (found : List Step) → q.number ≡ p.number → n ≡ length (edits q.seen) → length found < 64 → Goes p q found → AreSteps old mid (length (edits p.seen)) found → Grows old mid → Grows mid new → Rounds (round.End y) e n mid new q s → RunsOn (Err y) e old new p s
ends_after y e n old mid new p q s found k c l g a g1 g2 w =
    let i : length (found ++ w.0) ≡ length found + length w.0 = length-append found w.0 in (
      found ++ w.0,
      goes_stops p q s found w.0 None Abort k g w.1,
      steps_append old new (length (edits p.seen)) n found w.0 (c ∙ count_found p q found g) (steps_wider old old mid new (length (edits p.seen)) found (Grows-itself old) g2 a) (steps_wider old mid new new n w.0 g1 (Grows-itself new) w.2),
      few_ends y e old new s (length w.0) (length found) (length (found ++ w.0)) l i (ends_wider y e old mid new s (length w.0) g1 w.3),
    )

pub done_after : (e : Edit) (n : ℕ) (old mid new : Option Objects) (p q s : P) (found : List Step) → q.number ≡ p.number → length found < 64 → Goes p q found → AreSteps old mid (length (edits p.seen)) found → Grows old mid → Grows mid new → Rounds round.Done e n mid new q s → RunsOn (Ok n) e old new p s
done_after e n old mid new p q s found k l g a g1 g2 w = (
  found,
  w.0,
  subst (λ (xs : List Step). Stops p s xs w.0 (OwnEdit e)) (append-nil found) (goes_stops p q s found [] w.0 (OwnEdit e) k g w.1),
  steps_wider old old mid new (length (edits p.seen)) found (Grows-itself old) g2 a,
  load_wider old mid new new e w.0 g1 (Grows-itself new) w.2,
  w.3,
  l,
)

pub steps_more : (n : ℕ) (old mid new : Option Objects) (p q : P) (found : List Step) (x : Step) → n ≡ length (edits q.seen) → Goes p q found → AreSteps old mid (length (edits p.seen)) found → Grows old mid → Grows mid new → IsStep mid new n x → AreSteps old new (length (edits p.seen)) (found ++ x ∷ [])
steps_more n old mid new p q found x c g a g1 g2 w =
    steps_append old new (length (edits p.seen)) n found (x ∷ []) (c ∙ count_found p q found g) (steps_wider old old mid new (length (edits p.seen)) found (Grows-itself old) g2 a) (step_wider old mid new new n x g1 (Grows-itself new) w, tt)

-- a run after its Begin
pub ran : (old new : Option Objects) (from : List Entry) (p q s : P) (n : ℕ) (found : List Step) (l : Option LogStart) (x : Act) → q.number ≡ p.number → BeginsAt from p q n → IsPrefix q.seen s.seen → Stops q s found l x → AreSteps old new (length (edits q.seen)) found → Ran old new p s found l x
ran old new from p q s n found l x k b i t a = record {
  from = from;
  after = b.after;
  begun = subst (λ (h : List Entry). IsPrefix h s.seen) b.last i;
  added = adds_more p q s (entry p.number 0 Begin ∷ []) (finds p.number found ++ loading p.number l x) b.added (t.added ∙ ap (λ (j : ℕ). mine caller_of q ++ (finds j found ++ loading j l x)) k);
  before = t.before;
  last = t.last ∙ ap (λ (j : ℕ). t.before ++ entry j 0 x ∷ []) k;
  steps = subst (λ (es : List Edit). AreSteps old new (length es) found) b.edits a;
  edits = t.edits ∙ ap (λ (es : List Edit). es ++ map edit_in found) b.edits;
}

pub edits_run : (r : Result ℕ EditEnd) (e : Edit) (old new : Option Objects) (from : List Entry) (p q s : P) (n : ℕ) → q.number ≡ p.number → BeginsAt from p q n → IsPrefix q.seen s.seen → RunsOn r e old new q s → Edits r e old new p s
edits_run (Ok m) e old new from p q s n k b i w = (w.0, w.1, ran old new from p q s n w.0 w.1 (OwnEdit e) k b i w.2 w.3, w.4, w.5, w.6)
edits_run (Err (end.CatalogBlocked m)) e old new from p q s n k b i w = (w.0, ran old new from p q s n w.0 None Abort k b i w.1 w.2, w.3)
edits_run (Err end.Contended) e old new from p q s n k b i w = (w.0, ran old new from p q s n w.0 None Abort k b i w.1 w.2, w.3)
edits_run (Err (end.Refused x)) e old new from p q s n k b i w = (w.0, ran old new from p q s n w.0 None Abort k b i w.1 w.2, w.3)
edits_run (Err end.StoreFault) e old new from p q s n k b i w = (w.0, ran old new from p q s n w.0 None Abort k b i w.1 w.2, w.3)
edits_run (Err end.NoMemory) e old new from p q s n k b i w = inr (w.0, ran old new from p q s n w.0 None Abort k b i w.1 w.2, w.3)

pub nexts_ended : (x : EditEnd) (y : CatalogRefusal) (e : Edit) (n : ℕ) (old new : Option Objects) (p q : P) → x ≡ end_by y → Nexts (next.End y) n old new p q → Rounds (round.End x) e n old new p q
nexts_ended x y e n old new p q is w = rw is (nexts_end y e n old new p q w)

pub own_again : (r : Round) (e : Edit) (n : ℕ) (old mid new : Option Objects) (p s q : P) → s ≡ p → Grows old mid → Rounds r e n mid new s q → (before : Option Objects) → Grows before old → Rounds r e n before new p q
own_again r e n old mid new p s q k g w before h = rounds_same r e n before mid new p s q k (Grows-on before old mid h g) w

pub same_cause : (x : EditEnd) (y : CatalogRefusal) → x ≡ end_by y → failed_edit (Err x) ≡ failed_refusal y
same_cause x (refusal.Blocked n) e = ap (λ (z : EditEnd). failed_edit (Err z)) e
same_cause x refusal.StoreFault e = ap (λ (z : EditEnd). failed_edit (Err z)) e
same_cause x refusal.NoMemory e = ap (λ (z : EditEnd). failed_edit (Err z)) e
