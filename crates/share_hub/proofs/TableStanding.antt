-- What calls on a table's log added stands.
use Rattle.std.proofs.Common.{◌≡◌, inl, inr, ℕ, ◌+◌, ◌-◌, List, [], ◌∷◌, ◌++◌, length, get_or, Bool, true, Option, Some, None, Result, Ok, Err, sym, refl, ap, ◌∙◌, subst, arith, append_assoc}
use Rattle.std.specs.Prelude.{All}
use Rattle.std.specs.List.{filter_map, slice_get, position}
use Rattle.std.specs.Option.{option_map}
use Rattle.std.proofs.lemmas.List.{same_from_push}
use Rattle.std.proofs.lemmas.List.Elements.{All-append, All-cons, All-map, All-nil, filter_map-append}
use Rattle.std.proofs.lemmas.List.Quantifiers.{position-Some}
use Rattle.std.proofs.lemmas.Option.{slice_get-get_or}
use Rattle.std.proofs.lemmas.Slice.Eq.{bytes_eq-Decides}
use Rattle.edge_core.specs.Objects.{Objects}
use Rattle.log_actions.specs.declared.actions.Action.{Action}
use Rattle.log_store.specs.Backed.{HasCommit}
use Rattle.commit_check.specs.declared.offer.Offer.{Offer}
use Rattle.share_book.specs.declared.entry.Entry.{Entry}
use Rattle.share_book.specs.declared.entry.Act.{Act}
use Rattle.share_book.specs.declared.entry.Act.TheVariants.{Begin, Own, Found, Blocked, Abort}
use Rattle.share_book.specs.declared.entry.LogStart.{LogStart}
use Rattle.share_book.specs.History.{block_on, commit_on, entry, grown, start_in, starts, table_on}
use Rattle.share_book.specs.Legal.{There, is_at, log_at}
use Rattle.share_book.specs.TableView.{TableLog}
use Rattle.share_book.proofs.Bookkeeping.{nothing, there_from}
use Rattle.share_book.proofs.Growth.{get_stays}
use Rattle.share_book.proofs.Pushes.{here}
use Rattle.hub_calls.specs.Calls.{Adds, P}
use Rattle.hub_tables.specs.Commits.{CommitEnds, CommitLeaves}
use Rattle.hub_tables.specs.FoundCommits.{AreFound, RanOn}
use Rattle.hub_tables.specs.LogRefreshes.{IsTold, RefreshCut, RefreshEnds}
use Rattle.hub_tables.specs.TableCalls.{acts_on, founds, with_commits}
use Rattle.hub_tables.specs.declared.commit.CommitRefusal.{CommitRefusal}
use Rattle.hub_tables.specs.declared.commit.CommitRefusal.TheVariants as refusal
use Rattle.hub_tables.specs.declared.refresh.Refreshed.{Refreshed}
use Rattle.hub_tables.specs.declared.refresh.RefreshRefusal.TheVariants as refused
use Rattle.hub_tables.proofs.TablePasses.{table_grown}
use Rattle.share_hub.specs.Backing.{ActStands, AddsStanding, CommitStands}
use Rattle.share_hub.specs.TableLaws.{CommitsStand, RefreshesStand}

-- ---- a log later on

-- the commit is a version of the log, and stands in the store
abbrev Stands : Option Objects → List Action → TableLog → Type 0
Stands objects c t = (v : ℕ) × (slice_get t.commits v ≡ Some c) × HasCommit t.location objects v c

stays_at : (objects : Option Objects) (h later : List Entry) (j : ℕ) (c : List Action) (o : Option LogStart) → slice_get (starts h) (j - 1) ≡ o
    → There (option_map (grown (filter_map (commit_on j) h) (filter_map (block_on j) h)) o) (Stands objects c) → There (table_on j (h ++ later)) (Stands objects c)
stays_at objects h later j c None is w = absurd w
stays_at objects h later j c (Some s) is w =
    let there : slice_get (starts (h ++ later)) (j - 1) ≡ Some s = ap (λ (l : List LogStart). slice_get l (j - 1)) (filter_map-append start_in h later) ∙ get_stays (starts h) (starts later) (j - 1) s is in
    let cs : List (List Action) = filter_map (commit_on j) h in
    let more : s.commits ++ filter_map (commit_on j) (h ++ later) ≡ (s.commits ++ cs) ++ filter_map (commit_on j) later =
    ap (λ (l : List (List Action)). s.commits ++ l) (filter_map-append (commit_on j) h later) ∙ sym (append_assoc s.commits cs (filter_map (commit_on j) later)) in
    subst (λ (o : Option LogStart). There (option_map (grown (filter_map (commit_on j) (h ++ later)) (filter_map (block_on j) (h ++ later))) o) (Stands objects c)) (sym there)
    (w.0, ap (λ (l : List (List Action)). slice_get l w.0) more ∙ get_stays (s.commits ++ cs) (filter_map (commit_on j) later) w.0 c w.1, w.2)

-- a commit that stands goes on standing
stands_later : (objects : Option Objects) (h later : List Entry) (j : ℕ) (c : List Action) → CommitStands objects h j c → CommitStands objects (h ++ later) j c
stands_later objects h later j c w = stays_at objects h later j c (slice_get (starts h) (j - 1)) refl w

-- ---- where a log is

some_map : (o : Option ℕ) (j : ℕ) → option_map (λ i. i + 1) o ≡ Some j → (i : ℕ) × (o ≡ Some i) × (i + 1 ≡ j)
some_map None j e = absurd cc
some_map (Some i) j e = (i, refl, cc)

located : (location : List ℕ) (ss : List LogStart) (i : ℕ) (s : LogStart) → position (is_at location) ss ≡ Some i → slice_get ss i ≡ Some s → s.location ≡ location
located location ss i s at is =
    let first = position-Some (is_at location) ss i s at in
    let same : Some (get_or ss i s) ≡ Some s = sym (slice_get-get_or ss i s first.0) ∙ is in
    let one : get_or ss i s ≡ s = cc in
    (bytes_eq-Decides s.location location).0 (subst (λ (x : LogStart). is_at location x ≡ true) one first.1)

-- the log of a location's number is there
at_location : (h later : List Entry) (location : List ℕ) (j : ℕ) (o : Option LogStart) (t : TableLog) → slice_get (starts h) (j - 1) ≡ o → log_at (h ++ later) location ≡ Some j
    → option_map (grown (filter_map (commit_on j) h) (filter_map (block_on j) h)) o ≡ Some t → t.location ≡ location
at_location h later location j None t is at e = absurd cc
at_location h later location j (Some s) t is at e =
    let place = some_map (position (is_at location) (starts (h ++ later))) j at in
    let number : place.0 ≡ j - 1 = (let e = place.2 in omega arith) in
    let there : slice_get (starts (h ++ later)) (j - 1) ≡ Some s = ap (λ (l : List LogStart). slice_get l (j - 1)) (filter_map-append start_in h later) ∙ get_stays (starts h) (starts later) (j - 1) s is in
    let same : grown (filter_map (commit_on j) h) (filter_map (block_on j) h) s ≡ t = cc in
    sym (ap (λ (x : TableLog). x.location) same) ∙ located location (starts (h ++ later)) (j - 1) s (place.1 ∙ ap (λ (n : ℕ). Some n) number) there

pub location_of : (h later : List Entry) (location : List ℕ) (j : ℕ) (t : TableLog) → log_at (h ++ later) location ≡ Some j → table_on j h ≡ Some t → t.location ≡ location
location_of h later location j t at e = at_location h later location j (slice_get (starts h) (j - 1)) t refl at e

-- ---- what was found

slice_get_after : {X : Type 0} (xs ys : List X) (y : X) → slice_get (xs ++ y ∷ ys) (length xs) ≡ Some y
slice_get_after [] ys y = refl
slice_get_after (x ∷ xs) ys y = slice_get_after xs ys y

found_each : (Q : List Action → Type 0) (objects : Option Objects) (location : List ℕ) (log found all : List (List Action)) → ((v : ℕ) (c : List Action) → slice_get all v ≡ Some c → HasCommit location objects v c → Q c)
    → all ≡ log ++ found → AreFound location objects log found → All Q found
found_each Q objects location log [] all f is w = All-nil Q
found_each Q objects location log (c ∷ found) all f is w =
    All-cons Q c found (f (length log) c (ap (λ (l : List (List Action)). slice_get l (length log)) is ∙ slice_get_after log found c) w.0.1)
    (found_each Q objects location (log ++ c ∷ []) found all f (is ∙ sym (append_assoc log (c ∷ []) found)) w.1)

founds_stand : (objects : Option Objects) (location : List ℕ) (before later : List Entry) (j : ℕ) (a : Option TableLog) (found : List (List Action)) → log_at (before ++ later) location ≡ Some j → table_on j before ≡ option_map (with_commits found) a
    → There a (λ t. AreFound location objects t.commits found) → All (λ c. CommitStands objects (before ++ later) j c) found
founds_stand objects location before later j None found at e w = absurd w
founds_stand objects location before later j (Some t) found at e w =
    let place : t.location ≡ location = location_of before later location j (with_commits found t) at e in
    found_each (λ c. CommitStands objects (before ++ later) j c) objects location t.commits found (t.commits ++ found)
    (λ v c s h. stands_later objects before later j c (there_from (table_on j before) (with_commits found t) (Stands objects c) e (v, s, subst (λ (l : List ℕ). HasCommit l objects v c) (sym place) h)))
    refl w

-- all that a call on a log added
ran_stands : (objects : Option Objects) (location : List ℕ) (p q : P) (j : ℕ) (found : List (List Action)) (ends : List Act) → RanOn location objects p q j found ends → log_at q.seen location ≡ Some j → All (λ a. ActStands objects q.seen j a) ends → AddsStanding p q objects
ran_stands objects location p q j found ends ran at w =
    let k : ℕ = p.number in
    let Q : Entry → Type 0 = λ e. ActStands objects q.seen e.log e.act in
    let seen : q.seen ≡ ran.before ++ acts_on k j ends = ran.last in
    let each : All (λ c. CommitStands objects (ran.before ++ acts_on k j ends) j c) found =
    founds_stand objects location ran.before (acts_on k j ends) j (table_on j ran.from) found (subst (λ (h : List Entry). log_at h location ≡ Some j) seen at) ran.table ran.stored in (
      entry k j Begin ∷ (founds k j found ++ acts_on k j ends),
      ran.added,
      All-cons Q (entry k j Begin) (founds k j found ++ acts_on k j ends) tt
          (All-append Q (founds k j found) (acts_on k j ends) (All-map Q (λ c. entry k j (Found c)) found (subst (λ (h : List Entry). All (λ c. CommitStands objects h j c) found) (sym seen) each)) (All-map Q (λ a. entry k j a) ends w)),
    )

-- ---- the acts that end a call

module _ (objects : Option Objects) (h : List Entry) (j : ℕ) where
  abbrev EachStands : List Act → Type 0
  EachStands ends = All (λ a. ActStands objects h j a) ends

  pub aborted : (ends : List Act) → ends ≡ Abort ∷ [] → EachStands ends
  aborted ends e = subst EachStands (sym e) (All-cons (λ a. ActStands objects h j a) Abort [] tt (All-nil _))

  pub blocked : (n : ℕ) (ends : List Act) → ends ≡ Blocked n ∷ Abort ∷ [] → EachStands ends
  blocked n ends e = subst EachStands (sym e) (All-cons (λ a. ActStands objects h j a) (Blocked n) (Abort ∷ []) tt (aborted (Abort ∷ []) refl))

  owned : (c : List Action) (ends : List Act) → ends ≡ Own c ∷ [] → CommitStands objects h j c → EachStands ends
  owned c ends e w = subst EachStands (sym e) (All-cons (λ a. ActStands objects h j a) (Own c) [] w (All-nil _))

-- a caller's own commit stands on the log
pub table_owned : (k j : ℕ) (h : List Entry) (c : List Action) → table_on j (h ++ entry k j (Own c) ∷ []) ≡ option_map (with_commits (c ∷ [])) (table_on j h)
table_owned k j h c = let e : Entry = entry k j (Own c) in table_grown j h e c refl (here e (Some c)) (nothing j e)

-- the last entry is one act
same_own : (h a b : List Entry) (k m j n : ℕ) (c d : List Action) → h ≡ a ++ entry k j (Own c) ∷ [] → h ≡ b ++ entry m n (Own d) ∷ [] → c ≡ d
same_own h a b k m j n c d e f =
    let same : entry k j (Own c) ≡ entry m n (Own d) = (same_from_push a b (entry k j (Own c)) (entry m n (Own d)) (sym e ∙ f)).1 in
    let act : Own c ≡ Own d = ap (λ (x : Entry). x.act) same in
    cc

same_log : (h : List Entry) (location : List ℕ) (i j : ℕ) → log_at h location ≡ Some i → log_at h location ≡ Some j → i ≡ j
same_log h location i j a b = let e : Some i ≡ Some j = sym a ∙ b in cc

-- the commit that was put
own_stands : (o : Offer) (new : Option Objects) (q : P) (before : List Entry) (k j v : ℕ) (t : TableLog) (c : List Action) → q.seen ≡ before ++ entry k j (Own c) ∷ [] → table_on j before ≡ Some t → v ≡ length t.commits
    → log_at q.seen o.location ≡ Some j → HasCommit o.location new v c → CommitStands new q.seen j c
own_stands o new q before k j v t c last e at is has =
    let place : t.location ≡ o.location = location_of before (entry k j (Own c) ∷ []) o.location j t (subst (λ (h : List Entry). log_at h o.location ≡ Some j) last is) e in
    subst (λ (h : List Entry). CommitStands new h j c) (sym last)
    (there_from (table_on j (before ++ entry k j (Own c) ∷ [])) (with_commits (c ∷ []) t) (Stands new c) (table_owned k j before c ∙ ap (option_map (with_commits (c ∷ []))) e)
    (v, ap (λ (n : ℕ). slice_get (t.commits ++ c ∷ []) n) at ∙ slice_get_after t.commits [] c, subst (λ (l : List ℕ). HasCommit l new v c) (sym place) has))

module _ (now : ℕ) (o : Offer) (old new : Option Objects) (was is : Bool) (p q : P) (j : ℕ) (found : List (List Action)) (ends : List Act) (before : List Entry) where
  own_ended : (v : ℕ) (t : TableLog) → q.seen ≡ before ++ acts_on p.number j ends → table_on j before ≡ Some (with_commits found t) → log_at q.seen o.location ≡ Some j → CommitEnds (Ok v) now o old new t.block (t.commits ++ found) (length found) ends
      → CommitLeaves (Ok v) now o old new was is q → EachStands new q.seen j ends
  own_ended v t last e at told (inl l) = absurd (let x = l.0 in cc)
  own_ended v t last e at told (inr l) =
      let c : List Action = told.1.0 in
      let d : List Action = l.2.0 in
      let put : q.seen ≡ before ++ entry p.number j (Own c) ∷ [] = last ∙ ap (λ (es : List Act). before ++ acts_on p.number j es) told.1.2 in
      let one : d ≡ c = same_own q.seen l.2.1.0 before q.number p.number l.0 j d c l.2.1.1 put in
      owned new q.seen j c ends told.1.2 (own_stands o new q before p.number j v (with_commits found t) c put e told.0 at (subst (λ (x : List Action). HasCommit o.location new v x) one l.2.3))

  ended : (r : Result ℕ CommitRefusal) (a : Option TableLog) → q.seen ≡ before ++ acts_on p.number j ends → table_on j before ≡ option_map (with_commits found) a → log_at q.seen o.location ≡ Some j
      → There a (λ t. CommitEnds r now o old new t.block (t.commits ++ found) (length found) ends) → CommitLeaves r now o old new was is q → EachStands new q.seen j ends
  ended r None last e at w l = absurd w
  ended (Ok v) (Some t) last e at w l = own_ended v t last e at w l
  ended (Err refusal.NotLoaded) (Some t) last e at w l = absurd w
  ended (Err (refusal.Blocked n)) (Some t) last e at (inl w) l = aborted new q.seen j ends w.2
  ended (Err (refusal.Blocked n)) (Some t) last e at (inr w) l = blocked new q.seen j n ends w.3
  ended (Err refusal.Contended) (Some t) last e at w l = aborted new q.seen j ends w.1
  ended (Err (refusal.Conflict c)) (Some t) last e at w l = aborted new q.seen j ends w.4
  ended (Err refusal.Limit) (Some t) last e at w l = aborted new q.seen j ends w.4
  ended (Err refusal.StoreFault) (Some t) last e at w l = aborted new q.seen j ends w.1
  ended (Err refusal.NoMemory) (Some t) last e at w l = aborted new q.seen j ends w.1

none_stands : (p q : P) (objects : Option Objects) → Adds p q [] → AddsStanding p q objects
none_stands p q objects a = ([], a, All-nil _)

pub commits : CommitsStand
commits r now o old new was is p q (inl w) l = none_stands p q new w.1
commits r now o old new was is p q (inr (j, at, inr w)) l = none_stands p q new w.1
commits r now o old new was is p q (inr (j, at, inl x)) l =
    ran_stands new o.location p q j x.found x.ends x.ran at (ended now o old new was is p q j x.found x.ends x.ran.before r (table_on j x.ran.from) x.ran.last x.ran.table at x.told l)

-- ---- refreshes

refresh_ends : (r : Refreshed) (location : List ℕ) (old new : Option Objects) (q : P) (j : ℕ) (ends : List Act) (a : Option TableLog) → There a (λ t. IsTold r t × RefreshEnds r location old new t ends) → EachStands new q.seen j ends
refresh_ends r location old new q j ends None w = absurd w
refresh_ends r location old new q j ends (Some t) w = elim w.1 as (λ x. EachStands new q.seen j ends) [
  | inl e ↦ aborted new q.seen j ends e.0
  | inr e ↦ blocked new q.seen j r.kept ends e.0
]

cut_stands : (location : List ℕ) (old new : Option Objects) (p q : P) (j : ℕ) → log_at q.seen location ≡ Some j → RefreshCut location new p q j → AddsStanding p q new
cut_stands location old new p q j at w = ran_stands new location p q j w.0 (Abort ∷ []) w.1 at (aborted new q.seen j (Abort ∷ []) refl)

pub refreshes : RefreshesStand
refreshes (Ok r) location old new p q (j, at, inl w) = none_stands p q new w.0
refreshes (Ok r) location old new p q (j, at, inr x) = ran_stands new location p q j x.found x.ends x.ran at (refresh_ends r location old new q j x.ends (table_on j q.seen) x.told)
refreshes (Err refused.NotLoaded) location old new p q w = none_stands p q new w.0
refreshes (Err refused.StoreFault) location old new p q (inl w) = none_stands p q new w
refreshes (Err refused.StoreFault) location old new p q (inr (j, at, w)) = cut_stands location old new p q j at w
refreshes (Err refused.NoMemory) location old new p q (inl w) = none_stands p q new w
refreshes (Err refused.NoMemory) location old new p q (inr (j, at, w)) = cut_stands location old new p q j at w
