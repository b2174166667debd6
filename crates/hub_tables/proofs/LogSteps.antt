-- Calls on a table's log, one after another.
use Rattle.std.proofs.Common.{◌≡◌, ℕ, ◌-◌, List, [], ◌∷◌, ◌++◌, length, Option, Some, None, Ok, sym, refl, ap, ◌∙◌, subst, append_assoc}
use Rattle.std.specs.List.{filter_map, slice_get}
use Rattle.std.specs.Option.{option_map}
use Rattle.std.proofs.lemmas.List.{append-nil, map-append}
use mathlib.Core.List.{IsPrefix}
use Rattle.edge_core.specs.Objects.{Grows, Objects}
use Rattle.log_actions.specs.declared.actions.Action.{Action}
use Rattle.log_commit.specs.Texts.{commit_in}
use Rattle.log_store.specs.Log.{text_at}
use Rattle.turn_cell.specs.Passes.{mine}
use Rattle.share_book.specs.declared.entry.Entry.{Entry}
use Rattle.share_book.specs.declared.entry.Act.{Act}
use Rattle.share_book.specs.declared.entry.LogStart.{LogStart}
use Rattle.share_book.specs.declared.entry.Act.TheVariants.{Begin, Found, Blocked, Abort}
use Rattle.share_book.specs.TableView.{TableLog}
use Rattle.share_book.specs.History.{block_on, caller_of, commit_on, entry, first_block, grown, start_in, starts, table_on}
use Rattle.share_book.specs.Legal.{There}
use Rattle.share_book.proofs.Bookkeeping.{nothing, there_from}
use Rattle.share_book.proofs.Pushes.{here}
use Rattle.share_book.proofs.Words.{last_or_push, loud, quiet}
use Rattle.hub_tables.specs.declared.table_rounds.LogHead.{LogHead}
use Rattle.hub_calls.specs.Calls.{IsIdle, P}
use Rattle.hub_tables.specs.TableCalls.{BeginsOn, GoesOn, StopsOn, acts_on, founds, with_commits}
use Rattle.hub_tables.specs.FoundCommits.{AreFound, IsFoundAt, RanOn}
use Rattle.hub_tables.specs.TableRounds.{HoldsHead, IsHeadOf}
use Rattle.hub_tables.proofs.TablePasses.{adds_then, table_aborted, with_none}

founds_more : (k j : ℕ) (xs ys : List (List Action)) → founds k j (xs ++ ys) ≡ founds k j xs ++ founds k j ys
founds_more k j xs ys = map-append (λ c. entry k j (Found c)) xs ys

with_more : (xs ys : List (List Action)) (a b c : Option TableLog) → b ≡ option_map (with_commits xs) a → c ≡ option_map (with_commits ys) b → c ≡ option_map (with_commits (xs ++ ys)) a
with_more xs ys a b c e f = f ∙ (ap (option_map (with_commits ys)) e ∙ both a)
  where
    both : (o : Option TableLog) → option_map (with_commits ys) (option_map (with_commits xs) o) ≡ option_map (with_commits (xs ++ ys)) o
    both None = refl
    both (Some t) = ap (λ (x : List (List Action)). Some (record { location = t.location; commits = x; block = t.block })) (append_assoc t.commits xs ys)

pub goes_more_on : (p q r : P) (j : ℕ) (xs ys : List (List Action)) → q.number ≡ p.number → GoesOn p q j xs → GoesOn q r j ys → GoesOn p r j (xs ++ ys)
goes_more_on p q r j xs ys n a b = record {
  added = adds_then p q r (founds p.number j xs) (founds p.number j ys) a.added (b.added ∙ ap (λ (k : ℕ). mine caller_of q ++ founds k j ys) n) ∙ ap (λ (l : List Entry). mine caller_of p ++ l) (sym (founds_more p.number j xs ys));
  holder = b.holder;
  table = with_more xs ys (table_on j p.seen) (table_on j q.seen) (table_on j r.seen) a.table b.table;
}

pub goes_stops_on : (p q r : P) (j : ℕ) (xs ys : List (List Action)) (ends : List Act) → q.number ≡ p.number → GoesOn p q j xs → StopsOn q r j ys ends → StopsOn p r j (xs ++ ys) ends
goes_stops_on p q r j xs ys ends n a b = record {
  added =
      adds_then p q r (founds p.number j xs) (founds p.number j ys ++ acts_on p.number j ends) a.added (b.added ∙ ap (λ (k : ℕ). mine caller_of q ++ (founds k j ys ++ acts_on k j ends)) n)
      ∙ ap (λ (y : List Entry). mine caller_of p ++ y) (sym (append_assoc (founds p.number j xs) (founds p.number j ys) (acts_on p.number j ends)) ∙ ap (λ (y : List Entry). y ++ acts_on p.number j ends) (sym (founds_more p.number j xs ys)));
  before = b.before;
  last = b.last ∙ ap (λ (k : ℕ). b.before ++ acts_on k j ends) n;
  table = with_more xs ys (table_on j p.seen) (table_on j q.seen) (table_on j b.before) a.table b.table;
}

-- from the Begin on
abbrev pub begins_stops : (location : List ℕ) (new : Option Objects) (from : List Entry) (p q r : P) (j : ℕ) (t : TableLog) (xs : List (List Action)) (ends : List Act) → BeginsOn from p q j t → IsIdle p q → IsIdle q r → StopsOn q r j xs ends
    → There (table_on j q.seen) (λ x. AreFound location new x.commits xs) → RanOn location new p r j xs ends
begins_stops location new from p q r j t xs ends b i k s w =
    let n : q.number ≡ p.number = i.number in
    let same : table_on j q.seen ≡ table_on j from = b.holds.table ∙ sym b.table in
    record {
      from = from;
      after = b.after;
      begun = subst (λ (l : List Entry). IsPrefix l r.seen) b.last k.seen;
      added = adds_then p q r (entry p.number j Begin ∷ []) (founds p.number j xs ++ acts_on p.number j ends) b.added (s.added ∙ ap (λ (m : ℕ). mine caller_of q ++ (founds m j xs ++ acts_on m j ends)) n);
      before = s.before;
      last = s.last ∙ ap (λ (m : ℕ). s.before ++ acts_on m j ends) n;
      table = s.table ∙ ap (option_map (with_commits xs)) same;
      stored = subst (λ (o : Option TableLog). There o (λ x. AreFound location new x.commits xs)) same w;
    }

-- ---- the log at the end

pub table_stopped : (p q : P) (j : ℕ) (xs : List (List Action)) → StopsOn p q j xs (Abort ∷ []) → table_on j q.seen ≡ option_map (with_commits xs) (table_on j p.seen)
table_stopped p q j xs s = ap (table_on j) s.last ∙ (table_aborted p.number j s.before ∙ s.table)

abbrev pub with_blocked : ℕ → TableLog → TableLog
with_blocked n t = record { location = t.location; commits = t.commits; block = Some n }

table_blocked : (k j : ℕ) (h : List Entry) (t : TableLog) (n : ℕ) → table_on j h ≡ Some t → t.block ≡ None → table_on j (h ++ entry k j (Blocked n) ∷ []) ≡ Some (with_blocked n t)
table_blocked k j h t n is free =
    let e : Entry = entry k j (Blocked n) in
    let qc : filter_map (commit_on j) (h ++ e ∷ []) ≡ filter_map (commit_on j) h = quiet (commit_on j) h e (nothing j e) in
    let qb : filter_map (block_on j) (h ++ e ∷ []) ≡ filter_map (block_on j) h ++ n ∷ [] = loud (block_on j) h e n (here e (Some n)) in
    let qs : starts (h ++ e ∷ []) ≡ starts h = quiet start_in h e refl in
    (λ i. option_map (grown (qc i) (qb i)) (slice_get (qs i) (j - 1))) ∙ more (filter_map (commit_on j) h) (filter_map (block_on j) h) (slice_get (starts h) (j - 1)) is
  where
    first : (o : Option ℕ) (bs : List ℕ) → first_block o bs ≡ None → first_block o (bs ++ n ∷ []) ≡ Some n
    first None bs e = last_or_push None bs n
    first (Some m) bs e = absurd (cc e)

    more : (cs : List (List Action)) (bs : List ℕ) (o : Option LogStart) → option_map (grown cs bs) o ≡ Some t → option_map (grown cs (bs ++ n ∷ [])) o ≡ Some (with_blocked n t)
    more cs bs None e = absurd (cc e)
    more cs bs (Some s) e =
        let g : grown cs bs s ≡ t = cc e in
        let none : first_block s.block bs ≡ None = ap (λ (x : TableLog). x.block) g ∙ free in
        λ i. Some (record { location = (ap (λ (x : TableLog). x.location) g) i; commits = (ap (λ (x : TableLog). x.commits) g) i; block = (first s.block bs none) i })

pub table_stopped_blocked : (p q : P) (j n : ℕ) (t : TableLog) → table_on j p.seen ≡ Some t → t.block ≡ None → StopsOn p q j [] (Blocked n ∷ Abort ∷ []) → table_on j q.seen ≡ Some (with_blocked n t)
table_stopped_blocked p q j n t is free s =
    let k : ℕ = p.number in
    let now : table_on j s.before ≡ Some t = s.table ∙ (sym (with_none (table_on j p.seen)) ∙ is) in
    ap (table_on j) (s.last ∙ sym (append_assoc s.before (entry k j (Blocked n) ∷ []) (entry k j Abort ∷ [])))
    ∙ (table_aborted k j (s.before ++ entry k j (Blocked n) ∷ []) ∙ table_blocked k j s.before t n now free)

-- ---- what the store has

found_at_wider : (location : List ℕ) (a b : Option Objects) (log : List (List Action)) (c : List Action) → Grows a b → IsFoundAt location a log c → IsFoundAt location b log c
found_at_wider location a None log c g w = (w.0, tt)
found_at_wider location None (Some ys) log c g w = absurd (cc g)
found_at_wider location (Some xs) (Some ys) log c g w = (w.0, kept (text_at location xs (length log)) (text_at location ys (length log)) (λ bytes is. g _ bytes is) w.1)
  where
    kept : (r s : Option (List ℕ)) → ((bytes : List ℕ) → r ≡ Some bytes → s ≡ Some bytes) → option_map commit_in r ≡ Some (Ok c) → option_map commit_in s ≡ Some (Ok c)
    kept None s f e = absurd (cc e)
    kept (Some bytes) s f e = ap (option_map commit_in) (f bytes refl) ∙ e

pub found_wider : (location : List ℕ) (a b : Option Objects) (log xs : List (List Action)) → Grows a b → AreFound location a log xs → AreFound location b log xs
found_wider location a b log [] g w = tt
found_wider location a b log (c ∷ cs) g w = (found_at_wider location a b log c g w.0, found_wider location a b (log ++ c ∷ []) cs g w.1)

pub found_more : (location : List ℕ) (new : Option Objects) (log xs ys : List (List Action)) → AreFound location new log xs → AreFound location new (log ++ xs) ys → AreFound location new log (xs ++ ys)
found_more location new log [] ys w v = subst (λ (l : List (List Action)). AreFound location new l ys) (append-nil log) v
found_more location new log (c ∷ cs) ys w v = (w.0, found_more location new (log ++ c ∷ []) cs ys w.1 (subst (λ (l : List (List Action)). AreFound location new l ys) (sym (append_assoc log (c ∷ []) cs)) v))

-- found commits, and then more, on one log
pub stored_more : (location : List ℕ) (old new : Option Objects) (a b : Option TableLog) (xs ys : List (List Action)) → Grows old new → b ≡ option_map (with_commits xs) a → There a (λ t. AreFound location old t.commits xs) → There b (λ t. AreFound location new t.commits ys) → There a (λ t. AreFound location new t.commits (xs ++ ys))
stored_more location old new None b xs ys g e w v = w
stored_more location old new (Some t) b xs ys g e w v =
    found_more location new t.commits xs ys (found_wider location old new t.commits xs g w) (subst (λ (o : Option TableLog). There o (λ x. AreFound location new x.commits ys)) e v)

pub found_one : (location : List ℕ) (new : Option Objects) (o : Option TableLog) (c : List Action) → There o (λ t. IsFoundAt location new t.commits c) → There o (λ t. AreFound location new t.commits (c ∷ []))
found_one location new None c w = w
found_one location new (Some t) c w = (w, tt)

-- ---- what is known of the log

pub holds_more : (p q : P) (j : ℕ) (h h' : LogHead) (c : List Action) → (x : HoldsHead p j h) → GoesOn p q j (c ∷ []) → IsHeadOf h' (x.log.commits ++ c ∷ []) → HoldsHead q j h'
holds_more p q j h h' c x g k = record {
  log = with_commits (c ∷ []) x.log;
  holds = record { log = x.holds.log; holder = g.holder; table = g.table ∙ ap (option_map (with_commits (c ∷ []))) x.holds.table };
  free = x.free;
  head = k;
}

-- what is known of the log holds at it
pub there_held : (p : P) (j : ℕ) (h : LogHead) (Q : List (List Action) → Type 0) → (x : HoldsHead p j h) → Q x.log.commits → There (table_on j p.seen) (λ t. Q t.commits)
there_held p j h Q x w = there_from (table_on j p.seen) x.log (λ t. Q t.commits) x.holds.table w
