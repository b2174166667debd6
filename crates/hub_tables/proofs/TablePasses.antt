-- What a turn on a table's log does to a pass.
use Rattle.std.proofs.Common.{◌≡◌, ℕ, ◌+◌, ◌-◌, ◌<◌, List, [], ◌∷◌, ◌++◌, length, Option, Some, None, Result, suc, zero, sym, refl, ap, ◌∙◌, subst, arith, append_assoc, length-append}
use Rattle.std.specs.List.{filter_map, slice_get}
use Rattle.std.specs.Option.{option_map}
use Rattle.std.specs.Prelude.{IfOk}
use Rattle.std.proofs.lemmas.List.{append-nil}
use Rattle.std.proofs.lemmas.List.Elements.{filter_map-append}
use mathlib.Core.List.{IsPrefix}
use Rattle.log_actions.specs.declared.actions.Action.{Action}
use Rattle.share_book.specs.declared.entry.Entry.{Entry}
use Rattle.share_book.specs.declared.entry.Act.{Act}
use Rattle.share_book.specs.declared.entry.LogStart.{LogStart}
use Rattle.share_book.specs.declared.entry.Act.TheVariants.{Begin, Found, Blocked, Abort}
use Rattle.share_book.specs.TableView.{TableLog}
use Rattle.share_book.specs.History.{block_on, caller_of, commit_on, entry, first_block, grown, open_on, start_in, starts, table_on}
use Rattle.share_book.specs.Legal.{IsLegal, IsKeptLog, TakesCommit, There}
use Rattle.share_book.specs.Tables.{IsState}
use Rattle.share_book.proofs.Bookkeeping.{nothing, table_same}
use Rattle.share_book.proofs.Pushes.{here}
use Rattle.share_book.proofs.Still.{StandsOn, still_on}
use Rattle.share_book.proofs.Words.{loud, open_same, open_turned, quiet}
use Rattle.hub_tables.specs.declared.table_turns.LogOpened.{LogOpened}
use Rattle.hub_tables.specs.declared.table_turns.LogOpened.TheVariants as opened
use Rattle.hub_tables.specs.declared.table_turns.CommitPublished.{CommitPublished}
use Rattle.hub_tables.specs.declared.table_turns.CommitPublished.TheVariants as published
use Rattle.hub_tables.specs.TableTurns.{Blocks, IsLog, OpensLog, PublishesCommit}
use Rattle.hub_calls.specs.Calls.{Adds, IsIdle, P}
use Rattle.hub_tables.specs.TableCalls.{BeginsLog, BlocksLog, BeginsOn, FindsCommit, GoesOn, HoldsLog, StopsOn, acts_on, with_commits}
use Rattle.turn_cell.specs.Entries.{Extends}
use Rattle.turn_cell.specs.Passes.{mine}
use Rattle.hub_calls.proofs.Passes.{Gave, Took, adds, idle, prefix_more}

-- what two calls do to a pass, one after the other
pub idle_then : (p q r : P) → IsIdle p q → IsIdle q r → IsIdle p r
idle_then p q r a b = record { cell = b.cell ∙ a.cell; number = b.number ∙ a.number; holds = b.holds; seen = prefix_more p.seen q.seen r.seen a.seen b.seen }

pub adds_then : (p q r : P) (xs ys : List Entry) → Adds p q xs → Adds q r ys → Adds p r (xs ++ ys)
adds_then p q r xs ys a b = b ∙ (ap (λ l. l ++ ys) a ∙ append_assoc _ xs ys)

-- ---- which logs are there

pub is_log_later : (j : ℕ) (xs ys : List Entry) → IsPrefix xs ys → IsLog j xs → IsLog j ys
is_log_later j xs ys p l =
    let e : starts ys ≡ starts xs ++ starts p.0 = ap starts (sym p.1) ∙ filter_map-append start_in xs p.0 in
    let n : length (starts ys) ≡ length (starts xs) + length (starts p.0) = ap (λ (s : List LogStart). length s) e ∙ length-append (starts xs) (starts p.0) in
    let most = l.1 in
    (l.0, omega arith)

there_is : {X : Type 0} (xs : List X) (i : ℕ) (x : X) → slice_get xs i ≡ Some x → i < length xs
there_is [] i x e = absurd cc
there_is (y ∷ ys) zero x e = omega arith
there_is (y ∷ ys) (suc i) x e = let r = there_is ys i x e in omega arith

mapped_some : {X Y : Type 0} (f : X → Y) (o : Option X) (y : Y) → option_map f o ≡ Some y → (x : X) × (o ≡ Some x)
mapped_some f None y e = absurd cc
mapped_some f (Some x) y e = (x, refl)

pub is_log_with : (j : ℕ) (h : List Entry) (t : TableLog) → 0 < j → table_on j h ≡ Some t → IsLog j h
is_log_with j h t p e =
    let s = mapped_some (grown (filter_map (commit_on j) h) (filter_map (block_on j) h)) (slice_get (starts h) (j - 1)) t e in
    let less = there_is (starts h) (j - 1) s.0 s.1 in
    (p, omega arith)

pub is_log_held : (p : P) (j : ℕ) (t : TableLog) → HoldsLog p j t → IsLog j p.seen
is_log_held p j t h = is_log_with j p.seen t h.log h.table

-- ---- what entries do to a log

-- a further commit
pub table_grown : (j : ℕ) (h : List Entry) (e : Entry) (c : List Action) → start_in e ≡ None → commit_on j e ≡ Some c → block_on j e ≡ None → table_on j (h ++ e ∷ []) ≡ option_map (with_commits (c ∷ [])) (table_on j h)
table_grown j h e c s is b =
    let qc = loud (commit_on j) h e c is in
    let qb = quiet (block_on j) h e b in
    let qs = quiet start_in h e s in
    (λ i. option_map (grown (qc i) (qb i)) (slice_get (qs i) (j - 1))) ∙ more (filter_map (commit_on j) h) (filter_map (block_on j) h) (slice_get (starts h) (j - 1))
  where
    more : (cs : List (List Action)) (bs : List ℕ) (o : Option LogStart) → option_map (grown (cs ++ c ∷ []) bs) o ≡ option_map (with_commits (c ∷ [])) (option_map (grown cs bs) o)
    more cs bs None = refl
    more cs bs (Some s) = ap (λ (x : List (List Action)). Some (record { location = s.location; commits = x; block = first_block s.block bs })) (sym (append_assoc s.commits cs (c ∷ [])))

pub with_none : (o : Option TableLog) → o ≡ option_map (with_commits []) o
with_none None = refl
with_none (Some t) = ap (λ (x : List (List Action)). Some (record { location = t.location; commits = x; block = t.block })) (sym (append-nil t.commits))

pub table_begun : (k j : ℕ) (h : List Entry) → table_on j (h ++ entry k j Begin ∷ []) ≡ table_on j h
table_begun k j h = table_same j h (entry k j Begin) refl (nothing j (entry k j Begin)) (nothing j (entry k j Begin))

pub table_aborted : (k j : ℕ) (h : List Entry) → table_on j (h ++ entry k j Abort ∷ []) ≡ table_on j h
table_aborted k j h = table_same j h (entry k j Abort) refl (nothing j (entry k j Abort)) (nothing j (entry k j Abort))

-- ---- turns

-- nobody else has added on the log
pub stands_on : (j : ℕ) (p t : P) → Took p t → IsLegal t.seen → IsLog j p.seen → open_on j p.seen ≡ Some p.number → StandsOn j p.number p.seen t.seen
stands_on j p t a l i o = still_on j p t l a.same.1 a.kept a.seen i.0 i.1 o

log_opened_by : (r : LogOpened) (k j : ℕ) (h h' : List Entry) → OpensLog r k j h h' → (own : List Entry) × (h' ≡ h ++ own)
log_opened_by (opened.Open s) k j h h' o = (entry k j Begin ∷ [], o.0)
log_opened_by opened.Held k j h h' o = ([], o.0 ∙ sym (append-nil h))
log_opened_by opened.NoMemory k j h h' o = ([], o ∙ sym (append-nil h))

pub begins_log_idle : (r : LogOpened) (p t q : P) (k j : ℕ) (h h' : List Entry) → OpensLog r k j h h' → h ≡ t.seen → Took p t → Gave t q h' → IsIdle p q
begins_log_idle r p t q k j h h' o s a b = let w = log_opened_by r k j h h' o in idle p t q h' w.0 a b (w.1 ∙ ap (λ l. l ++ w.0) s)

there_some : {X : Type 0} (o : Option X) (Q : X → Type 0) → There o Q → (x : X) × (o ≡ Some x) × Q x
there_some None Q w = absurd w
there_some (Some x) Q w = (x, refl, w)

pub begins_log : (r : LogOpened) (p t q : P) (k j : ℕ) (h h' : List Entry) → 0 < j → k ≡ p.number → OpensLog r k j h h' → h ≡ t.seen → Took p t → Gave t q h' → BeginsLog r j p q
begins_log (opened.Open st) p t q k j h h' pos m o s a b =
    let e : h' ≡ t.seen ++ entry p.number j Begin ∷ [] = o.0 ∙ (λ i. s i ++ entry (m i) j Begin ∷ []) in
    let x = there_some (table_on j h) (λ y. IsState y st × IsKeptLog y.commits) o.1 in
    let now : table_on j t.seen ≡ Some x.0 = ap (table_on j) (sym s) ∙ x.1 in (
      t.seen,
      x.0,
      record {
        after = a.seen;
        last = b.seen ∙ e;
        added = adds p t q h' (entry p.number j Begin ∷ []) a b e;
        table = now;
        holds = record {
          log = pos;
          holder = ap (open_on j) (b.seen ∙ e) ∙ (open_turned j t.seen (entry p.number j Begin) (Some p.number) (here (entry p.number j Begin) (Some (Some p.number))) ∙ ap (λ (i : ℕ). Some i) (sym (b.same.1 ∙ a.same.1)));
          table = ap (table_on j) (b.seen ∙ e) ∙ (table_begun p.number j t.seen ∙ now);
        };
      },
      x.2.0,
      x.2.1,
    )
begins_log opened.Held p t q k j h h' pos m o s a b = adds p t q h' [] a b (o.0 ∙ (s ∙ sym (append-nil _)))
begins_log opened.NoMemory p t q k j h h' pos m o s a b = adds p t q h' [] a b (o ∙ (s ∙ sym (append-nil _)))

-- a turn in which nothing is added
pub goes_on : (j : ℕ) (p t q : P) (h : List Entry) → Took p t → Gave t q h → IsLegal t.seen → IsLog j p.seen → open_on j p.seen ≡ Some p.number → h ≡ t.seen → GoesOn p q j []
goes_on j p t q h a b legal i o e =
    let s = stands_on j p t a legal i o in
    record {
      added = adds p t q h [] a b (e ∙ sym (append-nil _));
      holder = ap (open_on j) (b.seen ∙ e) ∙ (s.holder ∙ ap (λ (n : ℕ). Some n) (sym (b.same.1 ∙ a.same.1)));
      table = ap (table_on j) (b.seen ∙ e) ∙ (s.table ∙ with_none (table_on j p.seen));
    }

-- the acts that end what the caller began
pub stops_on : (j : ℕ) (p t q : P) (h : List Entry) (ends : List Act) → Took p t → Gave t q h → IsLegal t.seen → IsLog j p.seen → open_on j p.seen ≡ Some p.number → (k : ℕ) → k ≡ p.number → h ≡ t.seen ++ acts_on k j ends → StopsOn p q j [] ends
stops_on j p t q h ends a b legal i o k n e =
    let e' : h ≡ t.seen ++ acts_on p.number j ends = e ∙ ap (λ (m : ℕ). t.seen ++ acts_on m j ends) n in
    record {
      added = adds p t q h (acts_on p.number j ends) a b e';
      before = t.seen;
      last = b.seen ∙ e';
      table = (stands_on j p t a legal i o).table ∙ with_none (table_on j p.seen);
    }

commit_published_by : (r : CommitPublished) (k j : ℕ) (c : List Action) (h h' : List Entry) → PublishesCommit r k j c h h' → (own : List Entry) × (h' ≡ h ++ own)
commit_published_by published.Open k j c h h' o = (entry k j (Found c) ∷ [], o)
commit_published_by published.NoMemory k j c h h' o = (entry k j (Found c) ∷ entry k j Abort ∷ [], o)

pub publishes_commit_idle : (r : CommitPublished) (p t q : P) (k j : ℕ) (c : List Action) (h h' : List Entry) → PublishesCommit r k j c h h' → h ≡ t.seen → Took p t → Gave t q h' → IsIdle p q
publishes_commit_idle r p t q k j c h h' o s a b = let w = commit_published_by r k j c h h' o in idle p t q h' w.0 a b (w.1 ∙ ap (λ y. y ++ w.0) s)

pub publishes_commit : (r : CommitPublished) (p t q : P) (k j : ℕ) (c : List Action) (h h' : List Entry) → k ≡ p.number → PublishesCommit r k j c h h' → h ≡ t.seen → Took p t → Gave t q h' → IsLegal t.seen → IsLog j p.seen → open_on j p.seen ≡ Some p.number → FindsCommit r j c p q
publishes_commit published.Open p t q k j c h h' m o s a b legal i w =
    let x : Entry = entry p.number j (Found c) in
    let e : h' ≡ t.seen ++ x ∷ [] = o ∙ (λ n. s n ++ entry (m n) j (Found c) ∷ []) in
    let z = stands_on j p t a legal i w in
    record {
      added = adds p t q h' (x ∷ []) a b e;
      holder = ap (open_on j) (b.seen ∙ e) ∙ (open_same j t.seen x (nothing j x) ∙ (z.holder ∙ ap (λ (n : ℕ). Some n) (sym (b.same.1 ∙ a.same.1))));
      table = ap (table_on j) (b.seen ∙ e) ∙ (table_grown j t.seen x c refl (here x (Some c)) (nothing j x) ∙ ap (option_map (with_commits (c ∷ []))) z.table);
    }
publishes_commit published.NoMemory p t q k j c h h' m o s a b legal i w =
    let x : Entry = entry p.number j (Found c) in
    let e : h' ≡ t.seen ++ x ∷ entry p.number j Abort ∷ [] = o ∙ (λ n. s n ++ entry (m n) j (Found c) ∷ entry (m n) j Abort ∷ []) in
    let z = stands_on j p t a legal i w in
    record {
      added = adds p t q h' (x ∷ entry p.number j Abort ∷ []) a b e;
      before = t.seen ++ x ∷ [];
      last = b.seen ∙ (e ∙ sym (append_assoc t.seen (x ∷ []) (entry p.number j Abort ∷ [])));
      table = table_grown j t.seen x c refl (here x (Some c)) (nothing j x) ∙ ap (option_map (with_commits (c ∷ []))) z.table;
    }

pub takes_same : (j : ℕ) (h h' : List Entry) (c : List Action) → table_on j h' ≡ table_on j h → TakesCommit h j c → TakesCommit h' j c
takes_same j h h' c e w = (w.0, subst (λ (o : Option TableLog). There o (λ t. (t.block ≡ None) × IsKeptLog (t.commits ++ c ∷ []))) (sym e) w.1)

pub there_same : (Q : TableLog → Type 0) (o o' : Option TableLog) → o' ≡ o → There o Q → There o' Q
there_same Q o o' e w = subst (λ (x : Option TableLog). There x Q) (sym e) w

pub commits_same : {X E : Type 0} (f : X → List (List Action)) (r : Result X E) (o o' : Option TableLog) → o' ≡ o → IfOk r (λ v. There o (λ t. t.commits ≡ f v)) → IfOk r (λ v. There o' (λ t. t.commits ≡ f v))
commits_same f r o o' e w = subst (λ (x : Option TableLog). IfOk r (λ v. There x (λ t. t.commits ≡ f v))) (sym e) w

-- the block of a log on which nobody else has added
pub blocks_log : (j : ℕ) (p t q : P) (h h' : List Entry) → Took p t → Gave t q h' → IsLegal t.seen → IsLog j p.seen → open_on j p.seen ≡ Some p.number → (k : ℕ) → k ≡ p.number → h ≡ t.seen → Blocks k j h h' → BlocksLog j p q
blocks_log j p t q h h' a b legal i o k n s w =
    let z = stands_on j p t a legal i o in
    by_table (table_on j h) (table_on j p.seen) (sym (ap (table_on j) s ∙ z.table)) w
  where
    by_table : (x y : Option TableLog) → y ≡ x → There x (λ t'. h' ≡ h ++ entry k j (Blocked (length t'.commits)) ∷ entry k j Abort ∷ []) → There y (λ t'. StopsOn p q j [] (Blocked (length t'.commits) ∷ Abort ∷ []))
    by_table x None e f = absurd (subst (λ (y : Option TableLog). There y (λ t'. h' ≡ h ++ entry k j (Blocked (length t'.commits)) ∷ entry k j Abort ∷ [])) (sym e) f)
    by_table x (Some t') e f =
        let g : h' ≡ h ++ entry k j (Blocked (length t'.commits)) ∷ entry k j Abort ∷ [] = subst (λ (y : Option TableLog). There y (λ t''. h' ≡ h ++ entry k j (Blocked (length t''.commits)) ∷ entry k j Abort ∷ [])) (sym e) f in
        stops_on j p t q h' (Blocked (length t'.commits) ∷ Abort ∷ []) a b legal i o k n (g ∙ ap (λ (l : List Entry). l ++ entry k j (Blocked (length t'.commits)) ∷ entry k j Abort ∷ []) s)

pub blocks_log_idle : (j : ℕ) (p t q : P) (h h' : List Entry) → Took p t → Gave t q h' → (k : ℕ) → h ≡ t.seen → Blocks k j h h' → IsIdle p q
blocks_log_idle j p t q h h' a b k s w =
    let x = there_some (table_on j h) (λ t'. h' ≡ h ++ entry k j (Blocked (length t'.commits)) ∷ entry k j Abort ∷ []) w in
    let own : List Entry = entry k j (Blocked (length x.0.commits)) ∷ entry k j Abort ∷ [] in
    idle p t q h' own a b (x.2 ∙ ap (λ l. l ++ own) s)

-- what a turn on a log adds is the caller's own
pub log_opened_grown : (r : LogOpened) (t : P) (k j : ℕ) (h h' : List Entry) → k ≡ t.number → OpensLog r k j h h' → h ≡ t.seen → Extends caller_of t.number t.seen h'
log_opened_grown (opened.Open st) t k j h h' m o s = (entry k j Begin ∷ [], o.0 ∙ ap (λ (l : List Entry). l ++ entry k j Begin ∷ []) s, (m, tt))
log_opened_grown opened.Held t k j h h' m o s = ([], o.0 ∙ (s ∙ sym (append-nil t.seen)), tt)
log_opened_grown opened.NoMemory t k j h h' m o s = ([], o ∙ (s ∙ sym (append-nil t.seen)), tt)

-- a wait, and then the Begin
pub starts_after : (from : List Entry) (p q r : P) (j : ℕ) (t : TableLog) → IsIdle p q → Adds p q [] → BeginsOn from q r j t → BeginsOn from p r j t
starts_after from p q r j t i a b = record {
  after = prefix_more p.seen q.seen from i.seen b.after;
  last = b.last ∙ ap (λ (k : ℕ). from ++ entry k j Begin ∷ []) i.number;
  added = adds_then p q r [] (entry p.number j Begin ∷ []) a (b.added ∙ ap (λ (k : ℕ). mine caller_of q ++ entry k j Begin ∷ []) i.number);
  table = b.table;
  holds = b.holds;
}
