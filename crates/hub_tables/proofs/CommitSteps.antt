-- Steps of a commit, one after another.
use Rattle.std.proofs.Common.{◌≡◌, ℕ, ◌+◌, ◌-◌, ◌^◌, ◌<◌, ◌≤◌, true, zero-add, List, [], ◌∷◌, ◌++◌, length, Option, Some, None, Result, Ok, Err, sym, refl, ap, ◌∙◌, subst, arith, inl, inr, append_assoc, length-append}
use Rattle.std.specs.Prelude.{IsSome, min}
use Rattle.std.specs.Option.{option_map}
use Rattle.std.proofs.lemmas.List.{append-nil}
use Rattle.std.proofs.lemmas.List.Sums.{sum_by-append}
use Rattle.edge_core.specs.Objects.{Grows, Lacks, Objects}
use Rattle.edge_core.proofs.Growth.{Grows-absent}
use Rattle.log_actions.specs.declared.actions.Action.{Action}
use Rattle.log_actions.specs.CommitTexts.{commit_text, printed_bytes}
use Rattle.log_commit.specs.Names.{commit_name}
use Rattle.log_replay.proofs.NextLemmas.{supported_more}
use Rattle.commit_check.specs.Admission.{Answers, admitted}
use Rattle.commit_check.specs.Lawful.{is_lawful}
use Rattle.commit_check.specs.declared.offer.Offer.{Offer}
use Rattle.commit_check.specs.declared.conflict.Conflict.{Conflict}
use Rattle.commit_check.specs.declared.conflict.NotAdmitted.{NotAdmitted}
use Rattle.commit_check.specs.declared.conflict.NotAdmitted.TheVariants as not_admitted
use Rattle.share_book.specs.declared.entry.Entry.{Entry}
use Rattle.share_book.specs.declared.entry.Act.{Act}
use Rattle.share_book.specs.declared.entry.Act.TheVariants.{Own, Blocked, Abort}
use Rattle.share_book.specs.declared.table.LogState.{LogState}
use Rattle.share_book.specs.TableView.{TableLog}
use Rattle.share_book.specs.History.{table_on}
use Rattle.share_book.specs.Books.{OwnIsLawful}
use Rattle.share_book.specs.Legal.{IsKeptLog, TakesCommit, There}
use Rattle.share_book.proofs.Bookkeeping.{there_at, there_from}
use Rattle.hub_tables.specs.declared.commit.CommitRefusal.{CommitRefusal}
use Rattle.hub_tables.specs.declared.commit.CommitRefusal.TheVariants as refusal
use Rattle.hub_tables.specs.declared.table_rounds.LogHead.{LogHead}
use Rattle.hub_tables.specs.declared.table_rounds.LogEnd.{LogEnd}
use Rattle.hub_tables.specs.declared.table_rounds.LogEnd.TheVariants as end
use Rattle.hub_tables.specs.declared.table_rounds.NextCommit.TheVariants as next
use Rattle.hub_tables.specs.declared.table_turns.KnownLog.{KnownLog}
use Rattle.hub_calls.specs.Calls.{Adds, IsIdle, P}
use Rattle.hub_tables.specs.TableCalls.{BeginsOn, BlocksLog, GoesOn, StopsOn, with_commits}
use Rattle.hub_tables.specs.TableTurns.{FindsLog}
use Rattle.hub_tables.specs.FoundCommits.{AreFound, IsFoundAt, IsUnkept}
use Rattle.hub_tables.specs.TableRounds.{EndsLog, HoldsHead, Nexts}
use Rattle.hub_tables.specs.RefreshRounds.{OpensOn}
use Rattle.hub_tables.specs.Commits.{CommitBegan, CommitEnds, Commits, LacksNext}
use Rattle.hub_tables.specs.CommitRounds.{CommitRounds, CommitRuns, HasName, IsFit, OneFound, refused_by, refused_for}
use Rattle.hub_tables.proofs.Admissions.{admitted_fits}
use Rattle.hub_tables.proofs.TablePasses.{adds_then, with_none}
use Rattle.hub_tables.proofs.LogSteps.{begins_stops, found_more, found_wider, goes_more_on, goes_stops_on}
use Rattle.hub_tables.proofs.RefreshSteps.{log_at_later, ran_after, versions_at}

-- ---- what is known of the log

printed_push : (log : List (List Action)) (c : List Action) → printed_bytes (log ++ c ∷ []) ≡ printed_bytes log + length (commit_text c)
printed_push log c =
    let sum : printed_bytes (log ++ c ∷ []) ≡ printed_bytes log + (0 + length (commit_text c)) = sum_by-append (λ (a : List Action). length (commit_text a)) log (c ∷ []) in
    sum ∙ ap (λ (n : ℕ). printed_bytes log + n) (zero-add (length (commit_text c)))

pub same_table : (p s : P) (j : ℕ) → GoesOn p s j [] → table_on j s.seen ≡ table_on j p.seen
same_table p s j g = g.table ∙ sym (with_none (table_on j p.seen))

abbrev pub held_still : (p s : P) (j : ℕ) (h : LogHead) → HoldsHead p j h → GoesOn p s j [] → HoldsHead s j h
held_still p s j h x g = record { log = x.log; holds = record { log = x.holds.log; holder = g.holder; table = same_table p s j g ∙ x.holds.table }; free = x.free; head = x.head }

pub there_still : (p s : P) (j : ℕ) (Q : TableLog → Type 0) → GoesOn p s j [] → There (table_on j p.seen) Q → There (table_on j s.seen) Q
there_still p s j Q g w = subst (λ (o : Option TableLog). There o Q) (sym (same_table p s j g)) w

pub wanting_there : (now : ℕ) (o : Offer) (p : P) (j : ℕ) (h : LogHead) → HoldsHead p j h → There (table_on j p.seen) (λ t. Answers (Err not_admitted.NoMemory) (admitted t.commits now o))
wanting_there now o p j h x = there_from (table_on j p.seen) x.log (λ t. Answers (Err not_admitted.NoMemory) (admitted t.commits now o)) x.holds.table tt

pub admitted_still : (now : ℕ) (o : Offer) (p s : P) (j : ℕ) (c : List Action) → GoesOn p s j [] → There (table_on j p.seen) (λ t. admitted t.commits now o ≡ Ok c) → There (table_on j s.seen) (λ t. admitted t.commits now o ≡ Ok c)
admitted_still now o p s j c g w = there_still p s j (λ t. admitted t.commits now o ≡ Ok c) g w

-- ---- the answer

ends_before : (r : Result ℕ CommitRefusal) (now : ℕ) (o : Offer) (old mid new : Option Objects) (b : Option ℕ) (log : List (List Action)) (m : ℕ) (ends : List Act) → Grows old mid → CommitEnds r now o mid new b log m ends → CommitEnds r now o old new b log m ends
ends_before (Ok v) now o old mid new b log m ends g w = w
ends_before (Err refusal.NotLoaded) now o old mid new b log m ends g w = w
ends_before (Err (refusal.Blocked n)) now o old mid new b log m ends g w = w
ends_before (Err refusal.Contended) now o old mid new b log m ends g w = w
ends_before (Err (refusal.Conflict c)) now o old mid new b log m ends g w = (w.0, w.1, Grows-absent old mid (commit_name o.location (length log)) g w.2, w.3, w.4)
ends_before (Err refusal.Limit) now o old mid new b log m ends g w = (w.0, w.1, Grows-absent old mid (commit_name o.location (length log)) g w.2, w.3, w.4)
ends_before (Err refusal.StoreFault) now o old mid new b log m ends g w = w
ends_before (Err refusal.NoMemory) now o old mid new b log m ends g w = w

more_ends : (r : Result ℕ CommitRefusal) (now : ℕ) (o : Offer) (old new : Option Objects) (b : Option ℕ) (log : List (List Action)) (m t i : ℕ) (ends : List Act) → t < 64 → i ≡ t + m → b ≡ None → OneFound r m → CommitEnds r now o old new b log m ends → CommitEnds r now o old new b log i ends
more_ends (Ok v) now o old new b log m t i ends l e free one w = (w.0, w.1, (let z : m ≡ 0 = one in omega arith))
more_ends (Err refusal.NotLoaded) now o old new b log m t i ends l e free one w = absurd one
more_ends (Err (refusal.Blocked n)) now o old new b log m t i ends l e free one (inl w) = let clash : None ≡ Some n = sym free ∙ w.0 in absurd (cc clash)
more_ends (Err (refusal.Blocked n)) now o old new b log m t i ends l e free one (inr w) = inr (w.0, w.1, (let z : m ≡ 0 = one in omega arith), w.3)
more_ends (Err refusal.Contended) now o old new b log m t i ends l e free one w = absurd one
more_ends (Err (refusal.Conflict c)) now o old new b log m t i ends l e free one w = (w.0, w.1, w.2, (let z : m ≡ 0 = one in omega arith), w.4)
more_ends (Err refusal.Limit) now o old new b log m t i ends l e free one w = (w.0, w.1, w.2, (let z : m ≡ 0 = one in omega arith), w.4)
more_ends (Err refusal.StoreFault) now o old new b log m t i ends l e free one w = ((let z : m ≡ 0 = one in omega arith), w.1)
more_ends (Err refusal.NoMemory) now o old new b log m t i ends l e free one w = ((let z : m ≤ 1 = one in omega arith), w.1)

-- ---- rounds

-- the caller ended what it began on the log, without a found commit
pub round_at : (r : Result ℕ CommitRefusal) (now : ℕ) (o : Offer) (old new : Option Objects) (p q : P) (j : ℕ) (h h' : LogHead) (ends : List Act) → (x : HoldsHead p j h) → StopsOn p q j [] ends → CommitEnds r now o old new x.log.block x.log.commits 0 ends → OneFound r 0
    → CommitRounds (Some r) now o j h h' old new p q
round_at r now o old new p q j h h' ends x s w one = (
  record {
    found = [];
    ends = ends;
    stops = s;
    told = there_from (table_on j p.seen) x.log (λ t. AreFound o.location new t.commits [] × CommitEnds r now o old new t.block (t.commits ++ []) 0 ends) x.holds.table
        (tt, subst (λ (l : List (List Action)). CommitEnds r now o old new x.log.block l 0 ends) (sym (append-nil x.log.commits)) w);
  },
  one,
)

-- a round that a look at the store ended
pub round_ended : (x : LogEnd) (version now : ℕ) (o : Offer) (old new : Option Objects) (p q : P) (j : ℕ) (h h' : LogHead) → HoldsHead p j h → version ≡ h.support.versions → Nexts (next.End x) o.location j h h' new p q → CommitRounds (Some (Err (refused_by x version))) now o j h h' old new p q
round_ended end.Blocked version now o old new p q j h h' b v w =
    let t : TableLog = b.log in
    let told = there_at (table_on j p.seen) t (λ y. AreFound o.location new y.commits w.0 × EndsLog end.Blocked o.location new y.commits w.0 w.1) b.holds.table w.3 in
    let none : w.0 ≡ [] = told.1.0 in
    let how : w.1 ≡ Blocked (length t.commits) ∷ Abort ∷ [] = told.1.1 in
    let s : StopsOn p q j [] (Blocked (length t.commits) ∷ Abort ∷ []) = subst (λ (zs : List (List Action)). StopsOn p q j zs (Blocked (length t.commits) ∷ Abort ∷ [])) none (subst (λ (zs : List Act). StopsOn p q j w.0 zs) how w.2) in
    let same : version ≡ length t.commits = v ∙ versions_at p j h b in
    let few : 0 < 64 = omega arith in
    round_at (Err (refusal.Blocked version)) now o old new p q j h h' (Blocked (length t.commits) ∷ Abort ∷ []) b s (inr (same, told.1.2, few, ap (λ (n : ℕ). Blocked n ∷ Abort ∷ []) (sym same))) refl
round_ended end.StoreFault version now o old new p q j h h' b v w =
    let t : TableLog = b.log in
    let told = there_at (table_on j p.seen) t (λ y. AreFound o.location new y.commits w.0 × EndsLog end.StoreFault o.location new y.commits w.0 w.1) b.holds.table w.3 in
    let none : w.0 ≡ [] = told.1.0 in
    let s : StopsOn p q j [] w.1 = subst (λ (zs : List (List Action)). StopsOn p q j zs w.1) none w.2 in
    let few : 0 < 64 = omega arith in
    round_at (Err refusal.StoreFault) now o old new p q j h h' w.1 b s (few, told.1.1) refl
round_ended end.NoMemory version now o old new p q j h h' b v w =
    let t : TableLog = b.log in
    let told = there_at (table_on j p.seen) t (λ y. AreFound o.location new y.commits w.0 × EndsLog end.NoMemory o.location new y.commits w.0 w.1) b.holds.table w.3 in
    let one : length w.0 ≤ 1 = told.1.0 in
    let few : length w.0 ≤ 64 = omega arith in (
      record {
        found = w.0;
        ends = w.1;
        stops = w.2;
        told = there_from (table_on j p.seen) t (λ y. AreFound o.location new y.commits w.0 × CommitEnds (Err refusal.NoMemory) now o old new y.block (y.commits ++ w.0) (length w.0) w.1) b.holds.table (told.0, (few, told.1.1));
      },
      one,
    )

abbrev pub runs_goes : (r : Result ℕ CommitRefusal) (now : ℕ) (o : Offer) (old new : Option Objects) (p s q : P) (j : ℕ) → s.number ≡ p.number → GoesOn p s j [] → CommitRuns r now o old new s q j → CommitRuns r now o old new p q j
runs_goes r now o old new p s q j n g x = record {
  found = x.found;
  ends = x.ends;
  stops = goes_stops_on p s q j [] x.found x.ends n g x.stops;
  told = subst (λ (y : Option TableLog). There y (λ t. AreFound o.location new t.commits x.found × CommitEnds r now o old new t.block (t.commits ++ x.found) (length x.found) x.ends)) (same_table p s j g) x.told;
}

-- a turn in which nothing was added, and then a round
pub rounds_goes : (r : Option (Result ℕ CommitRefusal)) (now : ℕ) (o : Offer) (old new : Option Objects) (p s q : P) (j : ℕ) (h h' : LogHead) → s.number ≡ p.number → GoesOn p s j [] → CommitRounds r now o j h h' old new s q → CommitRounds r now o j h h' old new p q
rounds_goes None now o old new p s q j h h' n g w = (w.0, goes_more_on p s q j [] (w.0 ∷ []) n g w.1, w.2, subst (λ (y : Option TableLog). There y (λ t. IsFoundAt o.location new t.commits w.0)) (same_table p s j g) w.3)
rounds_goes (Some r) now o old new p s q j h h' n g w = (runs_goes r now o old new p s q j n g w.0, w.1)

told_before : (r : Result ℕ CommitRefusal) (now : ℕ) (o : Offer) (old mid new : Option Objects) (a : Option TableLog) (xs : List (List Action)) (ends : List Act) → Grows old mid
    → There a (λ t. AreFound o.location new t.commits xs × CommitEnds r now o mid new t.block (t.commits ++ xs) (length xs) ends) → There a (λ t. AreFound o.location new t.commits xs × CommitEnds r now o old new t.block (t.commits ++ xs) (length xs) ends)
told_before r now o old mid new None xs ends g w = w
told_before r now o old mid new (Some t) xs ends g w = (w.0, ends_before r now o old mid new t.block (t.commits ++ xs) (length xs) ends g w.1)

-- the same over objects from before
pub rounds_before : (r : Option (Result ℕ CommitRefusal)) (now : ℕ) (o : Offer) (old mid new : Option Objects) (p q : P) (j : ℕ) (h h' : LogHead) → Grows old mid → CommitRounds r now o j h h' mid new p q → CommitRounds r now o j h h' old new p q
rounds_before None now o old mid new p q j h h' g w = w
rounds_before (Some r) now o old mid new p q j h h' g w = (record { found = w.0.found; ends = w.0.ends; stops = w.0.stops; told = told_before r now o old mid new (table_on j p.seen) w.0.found w.0.ends g w.0.told }, w.1)

pub rounds_same : (r : Option (Result ℕ CommitRefusal)) (now : ℕ) (o : Offer) (old mid new : Option Objects) (p s q : P) (j : ℕ) (h k h' : LogHead) → s ≡ p → Grows old mid → CommitRounds r now o j k h' mid new s q → CommitRounds r now o j h h' old new p q
rounds_same r now o old mid new p s q j h k h' same g w = head_same r (rounds_before r now o old mid new p q j k h' g (subst (λ (x : P). CommitRounds r now o j k h' mid new x q) same w))
  where
    head_same : (r : Option (Result ℕ CommitRefusal)) → CommitRounds r now o j k h' old new p q → CommitRounds r now o j h h' old new p q
    head_same None v = v
    head_same (Some x) v = v

-- a look that found what a put had found, or no more
pub again_blocked : (location : List ℕ) (j : ℕ) (h k : LogHead) (old new : Option Objects) (p s q : P) → HoldsHead p j h → s ≡ p → Grows old new → HasName (commit_name location h.support.versions) old → Lacks (commit_name location h.support.versions) new → BlocksLog j s q
    → Nexts (next.End end.Blocked) location j h k new p q
again_blocked location j h k old new p s q x same g has lacks b =
    let b' : BlocksLog j p q = subst (λ (y : P). BlocksLog j y q) same b in
    let t : TableLog = x.log in
    let stop : StopsOn p q j [] (Blocked (length t.commits) ∷ Abort ∷ []) = there_at (table_on j p.seen) t (λ y. StopsOn p q j [] (Blocked (length y.commits) ∷ Abort ∷ [])) x.holds.table b' in (
      [],
      Blocked (length t.commits) ∷ Abort ∷ [],
      stop,
      there_from (table_on j p.seen) t (λ y. AreFound location new y.commits [] × EndsLog end.Blocked location new y.commits [] (Blocked (length t.commits) ∷ Abort ∷ [])) x.holds.table
          (tt, (refl, refl, gone old new g has lacks)),
    )
  where
    clash : (r z : Option (List ℕ)) → ((bytes : List ℕ) → r ≡ Some bytes → z ≡ Some bytes) → IsSome r → z ≡ None → ⊥
    clash None z f i n = cc i
    clash (Some bytes) z f i n = cc (f bytes refl, n)

    gone : (a c : Option Objects) → Grows a c → HasName (commit_name location h.support.versions) a → Lacks (commit_name location h.support.versions) c → IsUnkept location c x.log.commits
    gone a None u i w = tt
    gone None (Some y) u i w = absurd (cc u)
    gone (Some z) (Some y) u i w = absurd (clash _ _ (λ bytes is. u (commit_name location h.support.versions) bytes is) i w)

-- ---- the caller's own commit

-- none was there as the next version
pub lacks_next : (o : Offer) (new : Option Objects) (p s : P) (j : ℕ) (h : LogHead) → HoldsHead p j h → s ≡ p → Lacks (commit_name o.location h.support.versions) new → There (table_on j s.seen) (λ t. LacksNext o new t.commits)
lacks_next o new p s j h x same w =
    subst (λ (y : P). There (table_on j y.seen) (λ t. LacksNext o new t.commits)) (sym same)
    (there_from (table_on j p.seen) x.log (λ t. LacksNext o new t.commits) x.holds.table (subst (λ (n : ℕ). Lacks (commit_name o.location n) new) (versions_at p j h x) w))

pub held_same : (p s : P) (j : ℕ) (h k : LogHead) → s ≡ p → k ≡ h → HoldsHead p j h → HoldsHead s j k
held_same p s j h k same kept x = subst (λ (l : LogHead). HoldsHead s j l) (sym kept) (subst (λ (y : P). HoldsHead y j h) (sym same) x)

pub done_round : (version now : ℕ) (o : Offer) (old new : Option Objects) (p s q : P) (j : ℕ) (h h' : LogHead) (c : List Action) → HoldsHead p j h → s.number ≡ p.number → GoesOn p s j [] → version ≡ h.support.versions → There (table_on j p.seen) (λ t. admitted t.commits now o ≡ Ok c) → StopsOn s q j [] (Own c ∷ [])
    → CommitRounds (Some (Ok version)) now o j h h' old new p q
done_round version now o old new p s q j h h' c x n g v a st =
    let ok : admitted x.log.commits now o ≡ Ok c = there_at (table_on j p.seen) x.log (λ t. admitted t.commits now o ≡ Ok c) x.holds.table a in
    let few : 0 < 64 = omega arith in
    rounds_goes (Some (Ok version)) now o old new p s q j h h' n g (round_at (Ok version) now o old new s q j h h' (Own c ∷ []) (held_still p s j h x g) st (v ∙ versions_at p j h x, (c, ok, refl), few) refl)

pub limit_round : (now : ℕ) (o : Offer) (old new : Option Objects) (p s q : P) (j : ℕ) (h h' : LogHead) (c : List Action) → HoldsHead p j h → s.number ≡ p.number → GoesOn p s j [] → There (table_on j p.seen) (λ t. admitted t.commits now o ≡ Ok c) → There (table_on j p.seen) (λ t. LacksNext o old t.commits)
    → There (table_on j s.seen) (λ t. 2 ^ 26 < printed_bytes (t.commits ++ c ∷ [])) → StopsOn s q j [] (Abort ∷ []) → CommitRounds (Some (Err refusal.Limit)) now o j h h' old new p q
limit_round now o old new p s q j h h' c x n g a l w st =
    let y : HoldsHead s j h = held_still p s j h x g in
    let ok : admitted x.log.commits now o ≡ Ok c = there_at (table_on j p.seen) x.log (λ t. admitted t.commits now o ≡ Ok c) x.holds.table a in
    let lacks : LacksNext o old x.log.commits = there_at (table_on j p.seen) x.log (λ t. LacksNext o old t.commits) x.holds.table l in
    let past : 2 ^ 26 < printed_bytes (x.log.commits ++ c ∷ []) = there_at (table_on j s.seen) x.log (λ t. 2 ^ 26 < printed_bytes (t.commits ++ c ∷ [])) y.holds.table w in
    let few : 0 < 64 = omega arith in
    rounds_goes (Some (Err refusal.Limit)) now o old new p s q j h h' n g (round_at (Err refusal.Limit) now o old new s q j h h' (Abort ∷ []) y st (y.free, (c, ok, past), lacks, few, refl) refl)

pub fault_round : (now : ℕ) (o : Offer) (old new : Option Objects) (p s q : P) (j : ℕ) (h h' : LogHead) → HoldsHead p j h → s.number ≡ p.number → GoesOn p s j [] → StopsOn s q j [] (Abort ∷ []) → CommitRounds (Some (Err refusal.StoreFault)) now o j h h' old new p q
fault_round now o old new p s q j h h' x n g st =
    let few : 0 < 64 = omega arith in
    rounds_goes (Some (Err refusal.StoreFault)) now o old new p s q j h h' n g (round_at (Err refusal.StoreFault) now o old new s q j h h' (Abort ∷ []) (held_still p s j h x g) st (few, refl) refl)

pub wanting_round : (r : Option (Result ℕ CommitRefusal)) (now : ℕ) (o : Offer) (old new : Option Objects) (p s q : P) (j : ℕ) (h h' : LogHead) → r ≡ Some (Err refusal.NoMemory) → HoldsHead p j h → s.number ≡ p.number → GoesOn p s j [] → StopsOn s q j [] (Abort ∷ []) → CommitRounds r now o j h h' old new p q
wanting_round r now o old new p s q j h h' e x n g st =
    let few : 0 ≤ 64 = omega arith in
    let one : 0 ≤ 1 = omega arith in
    subst (λ (y : Option (Result ℕ CommitRefusal)). CommitRounds y now o j h h' old new p q) (sym e)
    (rounds_goes (Some (Err refusal.NoMemory)) now o old new p s q j h h' n g (round_at (Err refusal.NoMemory) now o old new s q j h h' (Abort ∷ []) (held_still p s j h x g) st (few, refl) one))

conflict_round : (r : Option (Result ℕ CommitRefusal)) (now : ℕ) (o : Offer) (old new : Option Objects) (p s q : P) (j : ℕ) (h h' : LogHead) (c : Conflict) → r ≡ Some (Err (refusal.Conflict c)) → HoldsHead p j h → s.number ≡ p.number → GoesOn p s j [] → There (table_on j p.seen) (λ t. admitted t.commits now o ≡ Err c)
    → There (table_on j p.seen) (λ t. LacksNext o old t.commits) → StopsOn s q j [] (Abort ∷ []) → CommitRounds r now o j h h' old new p q
conflict_round r now o old new p s q j h h' c e x n g a l st =
    let no : admitted x.log.commits now o ≡ Err c = there_at (table_on j p.seen) x.log (λ t. admitted t.commits now o ≡ Err c) x.holds.table a in
    let lacks : LacksNext o old x.log.commits = there_at (table_on j p.seen) x.log (λ t. LacksNext o old t.commits) x.holds.table l in
    let few : 0 < 64 = omega arith in
    subst (λ (y : Option (Result ℕ CommitRefusal)). CommitRounds y now o j h h' old new p q) (sym e)
    (rounds_goes (Some (Err (refusal.Conflict c))) now o old new p s q j h h' n g (round_at (Err (refusal.Conflict c)) now o old new s q j h h' (Abort ∷ []) (held_still p s j h x g) st (x.free, no, lacks, few, refl) refl))

-- the offer isn't admitted, or memory was wanting
pub refused_round : (y : NotAdmitted) (x : CommitRefusal) (r : Option (Result ℕ CommitRefusal)) (now : ℕ) (o : Offer) (old new : Option Objects) (p s q : P) (j : ℕ) (h h' : LogHead) → r ≡ Some (Err x) → x ≡ refused_for y → HoldsHead p j h → s.number ≡ p.number → GoesOn p s j []
    → There (table_on j p.seen) (λ t. Answers (Err y) (admitted t.commits now o)) → There (table_on j p.seen) (λ t. LacksNext o old t.commits) → StopsOn s q j [] (Abort ∷ []) → CommitRounds r now o j h h' old new p q
refused_round (not_admitted.Conflict c) x r now o old new p s q j h h' e f b n g a l st = conflict_round r now o old new p s q j h h' c (e ∙ ap (λ (z : CommitRefusal). Some (Err z)) f) b n g a l st
refused_round not_admitted.NoMemory x r now o old new p s q j h h' e f b n g a l st = wanting_round r now o old new p s q j h h' (e ∙ ap (λ (z : CommitRefusal). Some (Err z)) f) b n g st

-- another object had the name
pub again_round : (r : Option (Result ℕ CommitRefusal)) (now : ℕ) (o : Offer) (old mid new : Option Objects) (p s t q : P) (j : ℕ) (h h' : LogHead) → t ≡ s → s.number ≡ p.number → GoesOn p s j [] → Grows old mid → CommitRounds r now o j h h' mid new t q → CommitRounds r now o j h h' old new p q
again_round r now o old mid new p s t q j h h' same n g u w = rounds_before r now o old mid new p q j h h' u (rounds_goes r now o mid new p s q j h h' n g (subst (λ (y : P). CommitRounds r now o j h h' mid new y q) same w))

-- a log takes the commit of an offer that is admitted after it
pub fits_there : (now : ℕ) (o : Offer) (p s : P) (j : ℕ) (c : List Action) → GoesOn p s j [] → There (table_on j p.seen) (λ t. admitted t.commits now o ≡ Ok c) → There (table_on j s.seen) (λ t. IsFit t.commits c)
fits_there now o p s j c g a = there_still p s j (λ t. IsFit t.commits c) g (fits (table_on j p.seen) a)
  where
    fits : (y : Option TableLog) → There y (λ t. admitted t.commits now o ≡ Ok c) → There y (λ t. IsFit t.commits c)
    fits None w = w
    fits (Some t) w = admitted_fits t.commits now o c w

-- what fits fits the log that is held
pub fits_held : (p : P) (j : ℕ) (h : LogHead) (c : List Action) → (x : HoldsHead p j h) → There (table_on j p.seen) (λ t. IsFit t.commits c) → IsFit x.log.commits c
fits_held p j h c x f = there_at (table_on j p.seen) x.log (λ t. IsFit t.commits c) x.holds.table f

pub short_of : (p : P) (j : ℕ) (h : LogHead) (c : List Action) (len : ℕ) → HoldsHead p j h → There (table_on j p.seen) (λ t. IsFit t.commits c) → len ≡ min (length (commit_text c)) (2 ^ 64 - 1) → len ≡ length (commit_text c)
short_of p j h c len x f e =
    let fit : IsFit x.log.commits c = there_at (table_on j p.seen) x.log (λ t. IsFit t.commits c) x.holds.table f in
    let short = fit.short in
    omega arith

-- the log takes the commit, as far as the limit lets it
pub takes_own : (p : P) (j : ℕ) (h : LogHead) (c : List Action) → (x : HoldsHead p j h) → There (table_on j p.seen) (λ t. IsFit t.commits c) → length (commit_text c) ≤ 2 ^ 26 - h.bytes → TakesCommit p.seen j c × OwnIsLawful true p.seen j c
takes_own p j h c x f l =
    let fit : IsFit x.log.commits c = there_at (table_on j p.seen) x.log (λ t. IsFit t.commits c) x.holds.table f in
    let sum = printed_push x.log.commits c in
    let counted = x.head.counted in
    let fits = x.head.kept.1 in
    let most : printed_bytes (x.log.commits ++ c ∷ []) ≤ 2 ^ 26 = omega arith in (
      (x.holds.log, there_from (table_on j p.seen) x.log (λ t. (t.block ≡ None) × IsKeptLog (t.commits ++ c ∷ [])) x.holds.table (x.free, (supported_more x.log.commits c fit.supported, most))),
      there_from (table_on j p.seen) x.log (λ t. is_lawful t.commits c ≡ true) x.holds.table fit.lawful,
    )

pub passes_limit : (p : P) (j : ℕ) (h : LogHead) (c : List Action) (n : ℕ) → HoldsHead p j h → n ≡ length (commit_text c) → 2 ^ 26 - h.bytes < n → There (table_on j p.seen) (λ t. 2 ^ 26 < printed_bytes (t.commits ++ c ∷ []))
passes_limit p j h c n x e l =
    let sum = printed_push x.log.commits c in
    let counted = x.head.counted in
    let fits = x.head.kept.1 in
    there_from (table_on j p.seen) x.log (λ t. 2 ^ 26 < printed_bytes (t.commits ++ c ∷ [])) x.holds.table (omega arith)

-- ---- runs

told_after : (r : Result ℕ CommitRefusal) (now : ℕ) (o : Offer) (old mid new : Option Objects) (a b : Option TableLog) (xs ys : List (List Action)) (ends : List Act) → Grows old mid → Grows mid new → length xs < 64 → OneFound r (length ys) → b ≡ option_map (with_commits xs) a → There b (λ t. t.block ≡ None)
    → There a (λ t. AreFound o.location mid t.commits xs) → There b (λ t. AreFound o.location new t.commits ys × CommitEnds r now o mid new t.block (t.commits ++ ys) (length ys) ends)
    → There a (λ t. AreFound o.location new t.commits (xs ++ ys) × CommitEnds r now o old new t.block (t.commits ++ (xs ++ ys)) (length (xs ++ ys)) ends)
told_after r now o old mid new None b xs ys ends g k few one e free w v = w
told_after r now o old mid new (Some t) b xs ys ends g k few one e free w v =
    let free' : t.block ≡ None = subst (λ (y : Option TableLog). There y (λ z. z.block ≡ None)) e free in
    let v' : AreFound o.location new (t.commits ++ xs) ys × CommitEnds r now o mid new t.block ((t.commits ++ xs) ++ ys) (length ys) ends =
    subst (λ (y : Option TableLog). There y (λ z. AreFound o.location new z.commits ys × CommitEnds r now o mid new z.block (z.commits ++ ys) (length ys) ends)) e v in
    let e1 : CommitEnds r now o old new t.block ((t.commits ++ xs) ++ ys) (length ys) ends = ends_before r now o old mid new t.block ((t.commits ++ xs) ++ ys) (length ys) ends g v'.1 in
    let e2 : CommitEnds r now o old new t.block (t.commits ++ (xs ++ ys)) (length ys) ends = subst (λ (l : List (List Action)). CommitEnds r now o old new t.block l (length ys) ends) (append_assoc t.commits xs ys) e1 in (
      found_more o.location new t.commits xs ys (found_wider o.location mid new t.commits xs k w) v'.0,
      more_ends r now o old new t.block (t.commits ++ (xs ++ ys)) (length ys) (length xs) (length (xs ++ ys)) ends few (length-append xs ys) free' one e2,
    )

-- found commits, and then a round that ended
pub runs_after : (r : Result ℕ CommitRefusal) (now : ℕ) (o : Offer) (old mid new : Option Objects) (p q s : P) (j : ℕ) (h h' : LogHead) (xs : List (List Action)) → HoldsHead q j h → q.number ≡ p.number → GoesOn p q j xs → length xs < 64
    → There (table_on j p.seen) (λ t. AreFound o.location mid t.commits xs) → Grows old mid → Grows mid new → CommitRounds (Some r) now o j h h' mid new q s → CommitRuns r now o old new p s j
runs_after r now o old mid new p q s j h h' xs x n g few w g1 g2 y = record {
  found = xs ++ y.0.found;
  ends = y.0.ends;
  stops = goes_stops_on p q s j xs y.0.found y.0.ends n g y.0.stops;
  told = told_after r now o old mid new (table_on j p.seen) (table_on j q.seen) xs y.0.found y.0.ends g1 g2 few y.1 g.table (there_from (table_on j q.seen) x.log (λ t. t.block ≡ None) x.holds.table x.free) w y.0.told;
}

-- 64 found commits, and then Abort
pub runs_contended : (now : ℕ) (o : Offer) (old new : Option Objects) (p q s : P) (j : ℕ) (xs : List (List Action)) → q.number ≡ p.number → GoesOn p q j xs → length xs ≡ 64 → There (table_on j p.seen) (λ t. AreFound o.location new t.commits xs) → StopsOn q s j [] (Abort ∷ [])
    → CommitRuns (Err refusal.Contended) now o old new p s j
runs_contended now o old new p q s j xs n g many w st = record {
  found = xs;
  ends = Abort ∷ [];
  stops = subst (λ (zs : List (List Action)). StopsOn p s j zs (Abort ∷ [])) (append-nil xs) (goes_stops_on p q s j xs [] (Abort ∷ []) n g st);
  told = both (table_on j p.seen) w;
}
  where
    both : (a : Option TableLog) → There a (λ t. AreFound o.location new t.commits xs) → There a (λ t. AreFound o.location new t.commits xs × CommitEnds (Err refusal.Contended) now o old new t.block (t.commits ++ xs) (length xs) (Abort ∷ []))
    both None v = v
    both (Some t) v = (v, (many, refl))

-- the Begin stood on a log that was blocked
pub runs_blocked : (version now : ℕ) (o : Offer) (old new : Option Objects) (p q : P) (j : ℕ) (s : LogState) → OpensOn p j s → s.block ≡ Some version → StopsOn p q j [] (Abort ∷ []) → CommitRuns (Err (refusal.Blocked version)) now o old new p q j
runs_blocked version now o old new p q j s x b st = record {
  found = [];
  ends = Abort ∷ [];
  stops = st;
  told = there_from (table_on j p.seen) x.log (λ t. AreFound o.location new t.commits [] × CommitEnds (Err (refusal.Blocked version)) now o old new t.block (t.commits ++ []) 0 (Abort ∷ [])) x.holds.table (tt, inl (sym x.state.block ∙ b, refl, refl));
}

-- memory was wanting before the first round
pub runs_wanting : (now : ℕ) (o : Offer) (old new : Option Objects) (p s q : P) (j : ℕ) (t : LogState) → OpensOn p j t → s.number ≡ p.number → GoesOn p s j [] → StopsOn s q j [] (Abort ∷ []) → CommitRuns (Err refusal.NoMemory) now o old new p q j
runs_wanting now o old new p s q j t x n g st = let none : 0 ≤ 64 = omega arith in record {
  found = [];
  ends = Abort ∷ [];
  stops = goes_stops_on p s q j [] [] (Abort ∷ []) n g st;
  told = there_from (table_on j p.seen) x.log (λ y. AreFound o.location new y.commits [] × CommitEnds (Err refusal.NoMemory) now o old new y.block (y.commits ++ []) 0 (Abort ∷ [])) x.holds.table (tt, (none, refl));
}

-- ---- from the Begin on

told_from : (r : Result ℕ CommitRefusal) (now : ℕ) (o : Offer) (old new : Option Objects) (a b : Option TableLog) (xs : List (List Action)) (ends : List Act) → b ≡ a → There b (λ t. AreFound o.location new t.commits xs × CommitEnds r now o old new t.block (t.commits ++ xs) (length xs) ends)
    → There a (λ t. CommitEnds r now o old new t.block (t.commits ++ xs) (length xs) ends)
told_from r now o old new a None xs ends e w = absurd w
told_from r now o old new a (Some t) xs ends e w = subst (λ (y : Option TableLog). There y (λ z. CommitEnds r now o old new z.block (z.commits ++ xs) (length xs) ends)) e w.1

are_found : (r : Result ℕ CommitRefusal) (now : ℕ) (o : Offer) (old new : Option Objects) (b : Option TableLog) (xs : List (List Action)) (ends : List Act) → There b (λ t. AreFound o.location new t.commits xs × CommitEnds r now o old new t.block (t.commits ++ xs) (length xs) ends) → There b (λ t. AreFound o.location new t.commits xs)
are_found r now o old new None xs ends w = w
are_found r now o old new (Some t) xs ends w = w.0

pub commit_began : (r : Result ℕ CommitRefusal) (now : ℕ) (o : Offer) (old new : Option Objects) (from : List Entry) (p q s : P) (j : ℕ) (t : TableLog) → BeginsOn from p q j t → IsIdle p q → IsIdle q s → CommitRuns r now o old new q s j → CommitBegan r now o old new p s j
commit_began r now o old new from p q s j t b i k x = inl (record {
  found = x.found;
  ends = x.ends;
  ran = begins_stops o.location new from p q s j t x.found x.ends b i k x.stops (are_found r now o old new (table_on j q.seen) x.found x.ends x.told);
  told = told_from r now o old new (table_on j from) (table_on j q.seen) x.found x.ends (b.holds.table ∙ sym b.table) x.told;
})

-- the whole call
pub commits_after : (r : Result ℕ CommitRefusal) (now : ℕ) (o : Offer) (old new : Option Objects) (l : KnownLog) (p q s : P) → IsIdle p q → IsIdle q s → Adds p q [] → FindsLog (Some l) o.location q.seen → CommitBegan r now o old new q s l.log → Commits r now o old new p s
commits_after r now o old new l p q s i k a f (inl x) =
    inr (l.log, log_at_later q.seen s.seen o.location l.log k.seen f.0, inl (record { found = x.found; ends = x.ends; ran = ran_after o.location new p q s l.log x.found x.ends i a x.ran; told = x.told }))
commits_after r now o old new l p q s i k a f (inr x) = inr (l.log, log_at_later q.seen s.seen o.location l.log k.seen f.0, inr (x.0, adds_then p q s [] [] a x.1))
