-- Steps of a refresh, one after another.
use Rattle.std.proofs.Common.{◌≡◌, ℕ, ◌+◌, ◌<◌, ◌≤◌, Bool, true, false, List, [], ◌∷◌, ◌++◌, length, not, nat_lt, cond, Option, Some, None, Result, Ok, Err, sym, refl, ap, ◌∙◌, subst, arith, inl, inr, length-append}
use Rattle.std.specs.Prelude.{IfSome, IsSome}
use Rattle.std.specs.List.{position, position_or_len, prefix_len}
use Rattle.std.specs.Option.{is_some, option_map}
use Rattle.std.proofs.lemmas.List.Elements.{filter_map-append}
use mathlib.Core.List.{IsPrefix}
use Rattle.edge_core.specs.Objects.{Grows, Lacks, Objects}
use Rattle.edge_core.proofs.Growth.{Grows-absent}
use Rattle.log_store.specs.Log.{text_at}
use Rattle.hub_tables.specs.declared.table_turns.KnownLog.{KnownLog}
use Rattle.hub_tables.specs.TableTurns.{FindsLog}
use Rattle.log_actions.specs.declared.actions.Action.{Action}
use Rattle.log_commit.specs.Names.{commit_name}
use Rattle.log_replay.specs.Standing.{Standing}
use Rattle.turn_cell.specs.Passes.{mine}
use Rattle.share_book.specs.declared.entry.Entry.{Entry}
use Rattle.share_book.specs.declared.entry.Act.{Act}
use Rattle.share_book.specs.declared.entry.LogStart.{LogStart}
use Rattle.share_book.specs.declared.entry.Act.TheVariants.{Begin, Blocked, Abort}
use Rattle.share_book.specs.declared.table.LogState.{LogState}
use Rattle.share_book.specs.TableView.{TableLog}
use Rattle.share_book.specs.History.{caller_of, entry, start_in, starts, table_on}
use Rattle.share_book.specs.Legal.{There, is_at, log_at}
use Rattle.share_book.specs.Tables.{IsState}
use Rattle.share_book.proofs.Bookkeeping.{there_at, there_from}
use Rattle.hub_tables.specs.declared.refresh.Refreshed.{Refreshed}
use Rattle.hub_tables.specs.declared.refresh.RefreshRefusal.{RefreshRefusal}
use Rattle.hub_tables.specs.declared.refresh.RefreshRefusal.TheVariants as refusal
use Rattle.hub_tables.specs.declared.table_rounds.LogHead.{LogHead}
use Rattle.hub_tables.specs.declared.table_rounds.LogEnd.{LogEnd}
use Rattle.hub_tables.specs.declared.table_rounds.LogEnd.TheVariants as end
use Rattle.hub_tables.specs.declared.table_rounds.NextCommit.TheVariants as next
use Rattle.hub_calls.specs.Calls.{Adds, IsIdle, P}
use Rattle.hub_tables.specs.TableCalls.{BeginsOn, GoesOn, StopsOn, acts_on, founds}
use Rattle.hub_tables.specs.FoundCommits.{AreFound, RanOn}
use Rattle.hub_tables.specs.TableRounds.{EndsLog, HoldsHead, Nexts}
use Rattle.hub_tables.specs.LogRefreshes.{IsTold, RefreshEnds, Refreshes}
use Rattle.hub_tables.specs.RefreshRounds.{CutRuns, OpensOn, RefreshRuns, RefreshesOn, RunsOnLog, ended_by, known_by}
use Rattle.hub_calls.proofs.Passes.{prefix_more}
use Rattle.hub_tables.proofs.TablePasses.{adds_then, with_none}
use Rattle.hub_tables.proofs.LogSteps.{begins_stops, goes_stops_on, stored_more, table_stopped, table_stopped_blocked, with_blocked}

-- a stop on a log of which this is known leaves it as it is
stopped_held : (p q : P) (j : ℕ) (t : TableLog) → table_on j p.seen ≡ Some t → StopsOn p q j [] (Abort ∷ []) → table_on j q.seen ≡ Some t
stopped_held p q j t is s = table_stopped p q j [] s ∙ (sym (with_none (table_on j p.seen)) ∙ is)

-- found commits, perhaps one more, and the end
runs_with : (location : List ℕ) (mid new : Option Objects) (p q r : P) (j : ℕ) (xs ys : List (List Action)) (ends : List Act) → q.number ≡ p.number → GoesOn p q j xs → There (table_on j p.seen) (λ t. AreFound location mid t.commits xs) → Grows mid new
    → StopsOn q r j ys ends → There (table_on j q.seen) (λ t. AreFound location new t.commits ys) → length xs + length ys ≤ 64 → RunsOnLog location new p r j (xs ++ ys) ends
runs_with location mid new p q r j xs ys ends n g w grows s v few = record {
  stops = goes_stops_on p q r j xs ys ends n g s;
  stored = stored_more location mid new (table_on j p.seen) (table_on j q.seen) xs ys grows g.table w v;
  few = (let l = length-append xs ys in omega arith);
}

pub none_found : (location : List ℕ) (new : Option Objects) (p : P) (j : ℕ) (t : TableLog) → table_on j p.seen ≡ Some t → There (table_on j p.seen) (λ x. AreFound location new x.commits [])
none_found location new p j t is = there_from (table_on j p.seen) t (λ x. AreFound location new x.commits []) is tt

pub versions_at : (p : P) (j : ℕ) (h : LogHead) → (x : HoldsHead p j h) → h.support.versions ≡ length x.log.commits
versions_at p j h x = ap (λ (s : Standing). s.versions) x.head.stands

-- a refresh that ends with Abort once nothing is left, or 64 were found
pub done_refresh : (location : List ℕ) (j : ℕ) (h : LogHead) (old mid new : Option Objects) (p q r : P) (xs : List (List Action)) (found kept : ℕ) → HoldsHead q j h → q.number ≡ p.number → GoesOn p q j xs → length xs ≡ found → found ≤ 64
    → There (table_on j p.seen) (λ t. AreFound location mid t.commits xs) → Grows mid new → kept ≡ h.support.versions → StopsOn q r j [] (Abort ∷ []) → (found < 64 → Lacks (commit_name location kept) old)
    → RefreshRuns (Ok (record { kept = kept; block = None; found = found })) location j old new p r
done_refresh location j h old mid new p q r xs found kept x n g count few w grows k s lacks =
    let t : TableLog = x.log in
    let now : table_on j r.seen ≡ Some t = stopped_held q r j t x.holds.table s in
    let many : found ≡ length (xs ++ []) = (let l = length-append xs [] in omega arith) in (
      xs ++ [],
      Abort ∷ [],
      runs_with location mid new p q r j xs [] (Abort ∷ []) n g w grows s (none_found location new q j t x.holds.table) (omega arith),
      many,
      there_from (table_on j r.seen) t (λ y. IsTold (record { kept = kept; block = None; found = found }) y × RefreshEnds (record { kept = kept; block = None; found = found }) location old new y (Abort ∷ [])) now
          ((k ∙ versions_at q j h x, sym x.free), inl (refl, λ e l. lacks l)),
    )

cut_with : (location : List ℕ) (j : ℕ) (mid new : Option Objects) (p q r : P) (xs ys : List (List Action)) (ends : List Act) → q.number ≡ p.number → GoesOn p q j xs → There (table_on j p.seen) (λ t. AreFound location mid t.commits xs) → Grows mid new
    → StopsOn q r j ys ends → There (table_on j q.seen) (λ t. AreFound location new t.commits ys) → length xs + length ys ≤ 64 → ends ≡ Abort ∷ [] → CutRuns location new p r j
cut_with location j mid new p q r xs ys ends n g w grows s v few e = (xs ++ ys, runs_with location mid new p q r j xs ys (Abort ∷ []) n g w grows (subst (λ (as' : List Act). StopsOn q r j ys as') e s) v few)

-- a refresh that a round ended
pub ends_refresh : (x : LogEnd) (location : List ℕ) (j : ℕ) (h h' : LogHead) (old mid new : Option Objects) (p q r : P) (xs : List (List Action)) (found kept : ℕ) → HoldsHead q j h → q.number ≡ p.number → GoesOn p q j xs → length xs ≡ found → found < 64
    → There (table_on j p.seen) (λ t. AreFound location mid t.commits xs) → Grows mid new → kept ≡ h.support.versions → Nexts (next.End x) location j h h' new q r
    → RefreshRuns (ended_by x kept found) location j old new p r
ends_refresh end.Blocked location j h h' old mid new p q r xs found kept x n g count few w grows k e =
    let t : TableLog = x.log in
    let ys : List (List Action) = e.0 in
    let ends : List Act = e.1 in
    let told = there_at (table_on j q.seen) t (λ y. AreFound location new y.commits ys × EndsLog end.Blocked location new y.commits ys ends) x.holds.table e.3 in
    let none : ys ≡ [] = told.1.0 in
    let how : ends ≡ Blocked (length t.commits) ∷ Abort ∷ [] = told.1.1 in
    let s : StopsOn q r j [] (Blocked (length t.commits) ∷ Abort ∷ []) = subst (λ (zs : List (List Action)). StopsOn q r j zs (Blocked (length t.commits) ∷ Abort ∷ [])) none (subst (λ (zs : List Act). StopsOn q r j ys zs) how e.2) in
    let now : table_on j r.seen ≡ Some (with_blocked (length t.commits) t) = table_stopped_blocked q r j (length t.commits) t x.holds.table x.free s in
    let same : kept ≡ length t.commits = k ∙ versions_at q j h x in
    let many : found ≡ length (xs ++ []) = (let l = length-append xs [] in omega arith) in
    let res : Refreshed = record { kept = kept; block = Some kept; found = found } in (
      xs ++ [],
      Blocked (length t.commits) ∷ Abort ∷ [],
      runs_with location mid new p q r j xs [] (Blocked (length t.commits) ∷ Abort ∷ []) n g w grows s (none_found location new q j t x.holds.table) (omega arith),
      many,
      there_from (table_on j r.seen) (with_blocked (length t.commits) t) (λ y. IsTold res y × RefreshEnds res location old new y (Blocked (length t.commits) ∷ Abort ∷ [])) now
          ((same, ap (λ (m : ℕ). Some m) same), inr (ap (λ (m : ℕ). Blocked m ∷ Abort ∷ []) (sym same), told.1.2)),
    )
ends_refresh end.StoreFault location j h h' old mid new p q r xs found kept x n g count few w grows k e =
    let t : TableLog = x.log in
    let ys : List (List Action) = e.0 in
    let ends : List Act = e.1 in
    let told = there_at (table_on j q.seen) t (λ y. AreFound location new y.commits ys × EndsLog end.StoreFault location new y.commits ys ends) x.holds.table e.3 in
    let none : length ys ≡ 0 = ap (λ (zs : List (List Action)). length zs) told.1.0 in
    cut_with location j mid new p q r xs ys ends n g w grows e.2 (there_from (table_on j q.seen) t (λ y. AreFound location new y.commits ys) x.holds.table told.0) (omega arith) told.1.1
ends_refresh end.NoMemory location j h h' old mid new p q r xs found kept x n g count few w grows k e =
    let t : TableLog = x.log in
    let ys : List (List Action) = e.0 in
    let ends : List Act = e.1 in
    let told = there_at (table_on j q.seen) t (λ y. AreFound location new y.commits ys × EndsLog end.NoMemory location new y.commits ys ends) x.holds.table e.3 in
    let one : length ys ≤ 1 = told.1.0 in
    cut_with location j mid new p q r xs ys ends n g w grows e.2 (there_from (table_on j q.seen) t (λ y. AreFound location new y.commits ys) x.holds.table told.0) (omega arith) told.1.1

-- ---- before the rounds

-- the Begin stood on a log that was blocked meanwhile
pub blocked_refresh : (location : List ℕ) (j : ℕ) (s : LogState) (old : Option Objects) (p q : P) (v : ℕ) → OpensOn p j s → s.block ≡ Some v → StopsOn p q j [] (Abort ∷ []) → RefreshRuns (Ok (known_by s)) location j old old p q
blocked_refresh location j s old p q v o b st =
    let t : TableLog = o.log in
    let now : table_on j q.seen ≡ Some t = stopped_held p q j t o.holds.table st in
    let none : 0 ≤ 64 = omega arith in (
      [],
      Abort ∷ [],
      record { stops = st; stored = none_found location old p j t o.holds.table; few = none },
      refl,
      there_from (table_on j q.seen) t (λ y. IsTold (known_by s) y × RefreshEnds (known_by s) location old old y (Abort ∷ [])) now
          ((o.state.kept, o.state.block), inl (refl, λ e l. absurd (cc (e, b)))),
    )

-- ---- from the Begin on

pub begun_refresh : (res : Result Refreshed RefreshRefusal) (location : List ℕ) (j : ℕ) (old new : Option Objects) (from : List Entry) (p q r : P) (t : TableLog) → BeginsOn from p q j t → IsIdle p q → IsIdle q r → RefreshRuns res location j old new q r → RefreshesOn res location j old new p r
begun_refresh (Ok res) location j old new from p q r t b i k u = record {
  found = u.0;
  ends = u.1;
  ran = begins_stops location new from p q r j t u.0 u.1 b i k u.2.stops u.2.stored;
  few = u.2.few;
  count = u.3;
  told = u.4;
}
begun_refresh (Err refusal.NotLoaded) location j old new from p q r t b i k u = absurd u
begun_refresh (Err refusal.StoreFault) location j old new from p q r t b i k u = inr (u.0, begins_stops location new from p q r j t u.0 (Abort ∷ []) b i k u.1.stops u.1.stored, u.1.few)
begun_refresh (Err refusal.NoMemory) location j old new from p q r t b i k u = inr (u.0, begins_stops location new from p q r j t u.0 (Abort ∷ []) b i k u.1.stops u.1.stored, u.1.few)

-- ---- the log of a location, later

prefix_front : {X : Type 0} (q : X → Bool) (xs ys : List X) → prefix_len q xs < length xs → prefix_len q (xs ++ ys) ≡ prefix_len q xs
prefix_front q [] ys l = absurd (omega (arith, l))
prefix_front q (x ∷ xs) ys l = by_first (q x) refl (λ less. prefix_front q xs ys less)
  where
    by_first : (b : Bool) → q x ≡ b → (prefix_len q xs < length xs → prefix_len q (xs ++ ys) ≡ prefix_len q xs) → prefix_len q (x ∷ xs ++ ys) ≡ prefix_len q (x ∷ xs)
    by_first false e rest = rw e refl
    by_first true e rest =
        let less : 1 + prefix_len q xs < length (x ∷ xs) = subst (λ (b : Bool). cond b (1 + prefix_len q xs) 0 < length (x ∷ xs)) e l in
        let same = rest (omega arith) in
        rw e (ap (λ (n : ℕ). 1 + n) same)

placed : (b : Bool) (n m i : ℕ) → nat_lt n m ≡ b → cond b (Some n) None ≡ Some i → (n ≡ i) × (n < m)
placed true n m i e is = let lt : n < m = search (arith, e) in (cc is, lt)
placed false n m i e is = absurd (cc is)

is_placed : (b : Bool) (n m i : ℕ) → nat_lt n m ≡ b → n ≡ i → n < m → cond b (Some n) None ≡ Some i
is_placed true n m i e is lt = ap (λ (k : ℕ). Some k) is
is_placed false n m i e is lt = let no : m ≤ n = search (arith, e) in absurd (omega arith)

position_front : {X : Type 0} (p : X → Bool) (xs ys : List X) (i : ℕ) → position p xs ≡ Some i → position p (xs ++ ys) ≡ Some i
position_front p xs ys i is =
    let at = placed (nat_lt (position_or_len p xs) (length xs)) (position_or_len p xs) (length xs) i refl is in
    let lt = at.1 in
    let more : position_or_len p (xs ++ ys) ≡ position_or_len p xs = prefix_front (λ x. not (p x)) xs ys lt in
    let long = length-append xs ys in
    is_placed (nat_lt (position_or_len p (xs ++ ys)) (length (xs ++ ys))) (position_or_len p (xs ++ ys)) (length (xs ++ ys)) i refl (more ∙ at.0) (omega arith)

some_map : (o : Option ℕ) (j : ℕ) → option_map (λ i. i + 1) o ≡ Some j → (i : ℕ) × (o ≡ Some i) × (i + 1 ≡ j)
some_map None j e = absurd (cc e)
some_map (Some i) j e = (i, refl, cc e)

-- the log of a location keeps its number
pub log_at_later : (xs ys : List Entry) (location : List ℕ) (j : ℕ) → IsPrefix xs ys → log_at xs location ≡ Some j → log_at ys location ≡ Some j
log_at_later xs ys location j p e =
    let at = some_map (position (is_at location) (starts xs)) j e in
    let all : starts ys ≡ starts xs ++ starts p.0 = ap starts (sym p.1) ∙ filter_map-append start_in xs p.0 in
    ap (λ (s : List LogStart). option_map (λ i. i + 1) (position (is_at location) s)) all
    ∙ (ap (option_map (λ i. i + 1)) (position_front (is_at location) (starts xs) (starts p.0) at.0 at.1) ∙ ap (λ (k : ℕ). Some k) at.2)

abbrev pub ran_after : (location : List ℕ) (new : Option Objects) (p q r : P) (j : ℕ) (found : List (List Action)) (ends : List Act) → IsIdle p q → Adds p q [] → RanOn location new q r j found ends → RanOn location new p r j found ends
ran_after location new p q r j found ends i a x =
    let n : q.number ≡ p.number = i.number in
    record {
      from = x.from;
      after = prefix_more p.seen q.seen x.from i.seen x.after;
      begun = subst (λ (k : ℕ). IsPrefix (x.from ++ entry k j Begin ∷ []) r.seen) n x.begun;
      added = adds_then p q r [] (entry p.number j Begin ∷ (founds p.number j found ++ acts_on p.number j ends)) a (x.added ∙ ap (λ (k : ℕ). mine caller_of q ++ (entry k j Begin ∷ (founds k j found ++ acts_on k j ends))) n);
      before = x.before;
      last = x.last ∙ ap (λ (k : ℕ). x.before ++ acts_on k j ends) n;
      table = x.table;
      stored = x.stored;
    }

-- ---- the whole call

known_told : (q : P) (j : ℕ) (s : LogState) → There (table_on j q.seen) (λ t. IsState t s) → There (table_on j q.seen) (IsTold (known_by s))
known_told q j s w = by_table (table_on j q.seen) w
  where
    by_table : (o : Option TableLog) → There o (λ t. IsState t s) → There o (IsTold (known_by s))
    by_table None w = w
    by_table (Some t) w = (w.kept, w.block)

pub known_absent : (l : KnownLog) (location : List ℕ) (old new : Option Objects) (p q : P) → FindsLog (Some l) location q.seen → Adds p q [] → Grows old new → IfSome new (λ os. text_at location os l.state.kept ≡ None) → Refreshes (Ok (known_by l.state)) location old new p q
known_absent l location old new p q f a g w = (l.log, f.0, inl (a, refl, known_told q l.log l.state f.2, λ e. Grows-absent old new (commit_name location l.state.kept) g w))

ends_before : (r : Refreshed) (location : List ℕ) (a b new : Option Objects) (t : TableLog) (ends : List Act) → Grows a b → RefreshEnds r location b new t ends → RefreshEnds r location a new t ends
ends_before r location a b new t ends g (inl w) = inl (w.0, λ e l. Grows-absent a b (commit_name location r.kept) g (w.1 e l))
ends_before r location a b new t ends g (inr w) = inr w

told_before : (r : Refreshed) (location : List ℕ) (a b new : Option Objects) (o : Option TableLog) (ends : List Act) → Grows a b → There o (λ t. IsTold r t × RefreshEnds r location b new t ends) → There o (λ t. IsTold r t × RefreshEnds r location a new t ends)
told_before r location a b new None ends g w = w
told_before r location a b new (Some t) ends g w = (w.0, ends_before r location a b new t ends g w.1)

-- the next version is there, of a log that isn't blocked
there_later : (location : List ℕ) (a b : Option Objects) (n : ℕ) → Grows a b → IfSome a (λ os. IsSome (text_at location os n)) → IfSome b (λ os. IsSome (text_at location os n))
there_later location a None n g w = tt
there_later location None (Some ys) n g w = absurd (cc g)
there_later location (Some xs) (Some ys) n g w = kept (text_at location xs n) (text_at location ys n) (λ bytes is. g (commit_name location n) bytes is) w
  where
    kept : (r s : Option (List ℕ)) → ((bytes : List ℕ) → r ≡ Some bytes → s ≡ Some bytes) → IsSome r → IsSome s
    kept None s f e = absurd (cc e)
    kept (Some bytes) s f e = subst (λ (o : Option (List ℕ)). IsSome o) (sym (f bytes refl)) refl

free_there : (location : List ℕ) (mid new : Option Objects) (s : LogState) (o : Option TableLog) → Grows mid new → s.block ≡ None → IfSome mid (λ os. IsSome (text_at location os s.kept)) → There o (λ t. IsState t s) → There o (λ t. (t.block ≡ None) × IfSome new (λ os. IsSome (text_at location os (length t.commits))))
free_there location mid new s None g b w v = v
free_there location mid new s (Some t) g b w v = (sym v.block ∙ b, subst (λ (n : ℕ). IfSome new (λ os. IsSome (text_at location os n))) v.kept (there_later location mid new s.kept g w))

-- a look that added nothing, and then a refresh that began
pub refresh_after : (res : Result Refreshed RefreshRefusal) (location : List ℕ) (l : KnownLog) (old mid new : Option Objects) (p q r : P) → Grows old mid → Grows mid new → IsIdle p q → IsIdle q r → Adds p q [] → FindsLog (Some l) location q.seen → l.state.block ≡ None → IfSome mid (λ os. IsSome (text_at location os l.state.kept))
    → RefreshesOn res location l.log mid new q r → Refreshes res location old new p r
refresh_after (Ok res) location l old mid new p q r g h i k a e b w u = (
  l.log,
  log_at_later q.seen r.seen location l.log k.seen e.0,
  inr (record {
    found = u.found;
    ends = u.ends;
    ran = ran_after location new p q r l.log u.found u.ends i a u.ran;
    sought = (q.seen, i.seen, u.ran.after, free_there location mid new l.state (table_on l.log q.seen) h b w e.2);
    few = u.few;
    count = u.count;
    told = told_before res location old mid new (table_on l.log r.seen) u.ends g u.told;
  }),
)
refresh_after (Err refusal.NotLoaded) location l old mid new p q r g h i k a e b w u = absurd u
refresh_after (Err refusal.StoreFault) location l old mid new p q r g h i k a e b w (inl u) = inl (adds_then p q r [] [] a u)
refresh_after (Err refusal.StoreFault) location l old mid new p q r g h i k a e b w (inr u) = inr (
  l.log,
  log_at_later q.seen r.seen location l.log k.seen e.0,
  (u.0, ran_after location new p q r l.log u.0 (Abort ∷ []) i a u.1, (q.seen, i.seen, u.1.after, free_there location mid new l.state (table_on l.log q.seen) h b w e.2), u.2),
)
refresh_after (Err refusal.NoMemory) location l old mid new p q r g h i k a e b w (inl u) = inl (adds_then p q r [] [] a u)
refresh_after (Err refusal.NoMemory) location l old mid new p q r g h i k a e b w (inr u) = inr (
  l.log,
  log_at_later q.seen r.seen location l.log k.seen e.0,
  (u.0, ran_after location new p q r l.log u.0 (Abort ∷ []) i a u.1, (q.seen, i.seen, u.1.after, free_there location mid new l.state (table_on l.log q.seen) h b w e.2), u.2),
)

pub lacks_before : (location : List ℕ) (a b : Option Objects) (n m : ℕ) → Grows a b → m ≡ n → Lacks (commit_name location n) b → Lacks (commit_name location m) a
lacks_before location a b n m g e w = Grows-absent a b (commit_name location m) g (subst (λ (k : ℕ). Lacks (commit_name location k) b) (sym e) w)

pub free_state : (o : Option ℕ) (b : Bool) → b ≡ is_some o → b ≡ false → o ≡ None
free_state None b e f = refl
free_state (Some n) b e f = absurd (cc (e, f))
