-- The commit of an offer is a winner over the same offer.
use Rattle.std.proofs.Common.{◌≡◌, ℕ, ◌+◌, ◌≤◌, ◌<◌, List, [], ◌∷◌, ◌++◌, length, drop, Bool, true, false, cond, Option, Some, None, Result, Ok, Err, option_map, refl, sym, ap, ◌∙◌, subst, bytes_eq, arith}
use Rattle.std.specs.Prelude.{◌||◌, filter_map, nat_lt}
use Rattle.std.specs.Option.{option_or}
use Rattle.std.specs.List.{cons_option, list_any, position_from}
use Rattle.std.proofs.lemmas.List.{drop-append-le}
use Rattle.std.proofs.lemmas.List.Elements.{filter_map-append}
use Rattle.std.proofs.lemmas.List.Folds.{list_any-append}
use Rattle.std.proofs.lemmas.Slice.Eq.{bytes_eq-Decides}
use Rattle.log_actions.specs.Commits.{is_meta_data, is_protocol}
use Rattle.log_actions.specs.declared.actions.Action.{Action}
use Rattle.log_actions.specs.declared.actions.Action.TheVariants as action
use Rattle.log_replay.specs.Reconciliation.{actions_in, last_meta, last_protocol}
use Rattle.commit_check.specs.Admission.{absent, admitted, appends_only, bad_offer, conflict_of, last_of, own_conflict, read_ahead, unless_conflict, unwritten, winners_conflict, won}
use Rattle.commit_check.specs.Laws.{RetriesAreRefused, is_marked}
use Rattle.commit_check.specs.Offers.{added_path, app_of, apps_of, commit_with, is_one_of, paths_added, paths_removed, read_state, removed_path}
use Rattle.commit_check.specs.Winners.{adds_read, adds_same, changes_read, first_winner, has_app_of, next_version, removes_same}
use Rattle.commit_check.specs.declared.conflict.Conflict.{Conflict}
use Rattle.commit_check.specs.declared.conflict.Conflict.TheVariants as conflict
use Rattle.commit_check.specs.declared.offer.Offer.{Offer}
use Rattle.commit_check.proofs.Lawfulness.{neither, no_conflict, some_conflict}

-- ---- something is told

record IsTold {X : Type 0} (o : Option X) : Type 0 where
  what : X
  is : o ≡ Some what

told_first : {X : Type 0} (a b : Option X) → IsTold a → IsTold (option_or a b)
told_first None b t = absurd (let e = t.is in cc)
told_first (Some x) b t = record { what = x; is = refl }

told_then : {X : Type 0} (a b : Option X) → IsTold b → IsTold (option_or a b)
told_then None b t = t
told_then (Some x) b t = record { what = x; is = refl }

told_map : {X Y : Type 0} (f : X → Y) (o : Option X) → IsTold o → IsTold (option_map f o)
told_map f None t = absurd (let e = t.is in cc)
told_map f (Some x) t = record { what = f x; is = refl }

-- ---- an element that passes

or_right : (a b : Bool) → b ≡ true → (a || b) ≡ true
or_right true b e = refl
or_right false b e = e

or_left : (a b : Bool) → a ≡ true → (a || b) ≡ true
or_left true b e = refl
or_left false b e = absurd cc

or_true : (b : Bool) → b ≡ true → (b || false) ≡ true
or_true true e = refl
or_true false e = absurd cc

any_there : {X : Type 0} (p : X → Bool) (xs ys : List X) (x : X) → p x ≡ true → list_any p (xs ++ x ∷ ys) ≡ true
any_there p xs ys x e = list_any-append p xs (x ∷ ys) ∙ or_right (list_any p xs) (list_any p (x ∷ ys)) (or_left (p x) (list_any p ys) e)

found_by : {X : Type 0} (p : X → Bool) (i : ℕ) (b : Bool) (rest : Option ℕ) → (b ≡ false → IsTold rest) → IsTold (cond b (Some i) rest)
found_by p i true rest f = record { what = i; is = refl }
found_by p i false rest f = f refl

found_at : {X : Type 0} (p : X → Bool) (i : ℕ) (xs ys : List X) (x : X) → p x ≡ true → IsTold (position_from p i (xs ++ x ∷ ys))
found_at p i [] ys x e = found_by p i (p x) (position_from p (i + 1) ys) (λ q. absurd (let z = e in cc))
found_at p i (y ∷ xs) ys x e = found_by p i (p y) (position_from p (i + 1) (xs ++ x ∷ ys)) (λ q. found_at p (i + 1) xs ys x e)

-- a winner is told where the commit has an action that passes
won_by : (tell : ℕ → Conflict) (test : Action → Bool) (log more : List (List Action)) (commit : List Action) (read : Option ℕ) → next_version read ≤ length log → list_any test commit ≡ true
    → IsTold (won tell test (log ++ commit ∷ more) read)
won_by tell test log more commit read le e =
    told_map tell (first_winner test (log ++ commit ∷ more) read)
    (subst (λ (ws : List (List Action)). IsTold (position_from (list_any test) (next_version read) ws)) (sym (drop-append-le (next_version read) log (commit ∷ more) le))
    (found_at (list_any test) (next_version read) (drop (next_version read) log) more commit e))

-- ---- an action that marks the offer

text_itself : (t : List ℕ) → bytes_eq t t ≡ true
text_itself t = (bytes_eq-Decides t t).1 refl

own_text : (f : Action → Option (List ℕ)) (xs ys : List Action) (a : Action) (t : List ℕ) → f a ≡ Some t → is_one_of (filter_map f (xs ++ a ∷ ys)) (Some t) ≡ true
own_text f xs ys a t e =
    let here : list_any (bytes_eq t) (filter_map f (a ∷ ys)) ≡ true =
    ap (λ (o : Option (List ℕ)). list_any (bytes_eq t) (cons_option o (filter_map f ys))) e ∙ or_left (bytes_eq t t) (list_any (bytes_eq t) (filter_map f ys)) (text_itself t) in
    ap (λ (l : List (List ℕ)). list_any (bytes_eq t) l) (filter_map-append f xs (a ∷ ys))
    ∙ list_any-append (bytes_eq t) (filter_map f xs) (filter_map f (a ∷ ys))
    ∙ or_right (list_any (bytes_eq t) (filter_map f xs)) (list_any (bytes_eq t) (filter_map f (a ∷ ys))) here

-- the first that passes, and what stands before and after it
record Split (test : Action → Bool) (actions : List Action) : Type 0 where
  front : List Action
  one : Action
  back : List Action
  is : actions ≡ front ++ one ∷ back
  passes : test one ≡ true

split_by : (test : Action → Bool) (a : Action) (rest : List Action) → (list_any test rest ≡ true → Split test rest) → (b : Bool) → test a ≡ b → (b || list_any test rest) ≡ true → Split test (a ∷ rest)
split_by test a rest later true e any = record { front = []; one = a; back = rest; is = refl; passes = e }
split_by test a rest later false e any =
    let s = later any in record { front = a ∷ s.front; one = s.one; back = s.back; is = ap (λ (l : List Action). a ∷ l) s.is; passes = s.passes }

split : (test : Action → Bool) (actions : List Action) → list_any test actions ≡ true → Split test actions
split test [] any = absurd cc
split test (a ∷ rest) any = split_by test a rest (split test rest) (test a) refl any

-- in the commit of the offer an action passes that is in the offer
passes_in : (test : Action → Bool) (now : ℕ) (front back : List Action) (a : Action) → test a ≡ true → list_any test (commit_with now (front ++ a ∷ back)) ≡ true
passes_in test now front back a e = any_there test (action.CommitInfo (record { timestamp = Some now }) ∷ front) back a e

second : {X : Type 0} (a b rest : Option X) → IsTold b → IsTold (option_or a (option_or b rest))
second a b rest t = told_then a (option_or b rest) (told_first b rest t)

third : {X : Type 0} (a b c rest : Option X) → IsTold c → IsTold (option_or a (option_or b (option_or c rest)))
third a b c rest t = told_then a (option_or b (option_or c rest)) (second b c rest t)

fourth : {X : Type 0} (a b c d rest : Option X) → IsTold d → IsTold (option_or a (option_or b (option_or c (option_or d rest))))
fourth a b c d rest t = told_then a (option_or b (option_or c (option_or d rest))) (third b c d rest t)

fifth : {X : Type 0} (a b c d e rest : Option X) → IsTold e → IsTold (option_or a (option_or b (option_or c (option_or d (option_or e rest)))))
fifth a b c d e rest t = told_then a (option_or b (option_or c (option_or d (option_or e rest)))) (fourth b c d e rest t)

module _ (log more : List (List Action)) (now : ℕ) (offer : Offer) (front back : List Action) (a : Action) where
  abbrev commit : List Action
  commit = commit_with now (front ++ a ∷ back)

  abbrev all : List (List Action)
  all = log ++ commit ∷ more

  abbrev by_protocol : Option Conflict
  by_protocol = won (λ v. conflict.ProtocolChanged v) is_protocol all offer.read

  abbrev by_meta : Option Conflict
  by_meta = won (λ v. conflict.MetadataChanged v) is_meta_data all offer.read

  abbrev by_app : Option Conflict
  by_app = won (λ v. conflict.ConcurrentTransaction v) (has_app_of offer.actions) all offer.read

  abbrev by_remove : Option Conflict
  by_remove = won (λ v. conflict.ConcurrentDeleteDelete v) (removes_same offer.actions) all offer.read

  abbrev by_add : Option Conflict
  by_add = won (λ v. conflict.ConcurrentAddAdd v) (adds_same offer.actions) all offer.read

  abbrev read_on : Option Conflict
  read_on = option_or (won (λ v. conflict.ConcurrentDeleteRead v) (changes_read offer.reads (read_state all offer.read)) all offer.read) (won (λ v. conflict.ConcurrentAppend v) (adds_read offer.reads (read_state all offer.read)) all offer.read)

  abbrev Tells : Type 0
  Tells = IsTold (winners_conflict all (read_state all offer.read) offer)

  as_protocol : next_version offer.read ≤ length log → is_protocol a ≡ true → Tells
  as_protocol le e =
      told_first by_protocol (option_or by_meta (option_or by_app (option_or by_remove (option_or by_add read_on))))
      (won_by (λ v. conflict.ProtocolChanged v) is_protocol log more commit offer.read le (passes_in is_protocol now front back a e))

  as_meta : next_version offer.read ≤ length log → is_meta_data a ≡ true → Tells
  as_meta le e =
      second by_protocol by_meta (option_or by_app (option_or by_remove (option_or by_add read_on)))
      (won_by (λ v. conflict.MetadataChanged v) is_meta_data log more commit offer.read le (passes_in is_meta_data now front back a e))

  as_app : next_version offer.read ≤ length log → has_app_of offer.actions a ≡ true → Tells
  as_app le e =
      third by_protocol by_meta by_app (option_or by_remove (option_or by_add read_on))
      (won_by (λ v. conflict.ConcurrentTransaction v) (has_app_of offer.actions) log more commit offer.read le (passes_in (has_app_of offer.actions) now front back a e))

  as_remove : next_version offer.read ≤ length log → removes_same offer.actions a ≡ true → Tells
  as_remove le e =
      fourth by_protocol by_meta by_app by_remove (option_or by_add read_on)
      (won_by (λ v. conflict.ConcurrentDeleteDelete v) (removes_same offer.actions) log more commit offer.read le (passes_in (removes_same offer.actions) now front back a e))

  as_add : next_version offer.read ≤ length log → adds_same offer.actions a ≡ true → Tells
  as_add le e =
      fifth by_protocol by_meta by_app by_remove by_add read_on
      (won_by (λ v. conflict.ConcurrentAddAdd v) (adds_same offer.actions) log more commit offer.read le (passes_in (adds_same offer.actions) now front back a e))

told_by : (log more : List (List Action)) (now : ℕ) (offer : Offer) (front back : List Action) (a : Action) → offer.actions ≡ front ++ a ∷ back → is_marked a ≡ true → next_version offer.read ≤ length log
    → IsTold (winners_conflict (log ++ commit_with now (front ++ a ∷ back) ∷ more) (read_state (log ++ commit_with now (front ++ a ∷ back) ∷ more) offer.read) offer)
told_by log more now offer front back (action.Protocol p) is mark le = as_protocol log more now offer front back (action.Protocol p) le refl
told_by log more now offer front back (action.MetaData m) is mark le = as_meta log more now offer front back (action.MetaData m) le refl
told_by log more now offer front back (action.Txn t) is mark le =
    as_app log more now offer front back (action.Txn t) le (ap (λ (l : List Action). is_one_of (apps_of l) (Some t.app)) is ∙ own_text app_of front back (action.Txn t) t.app refl)
told_by log more now offer front back (action.Remove f) is mark le =
    as_remove log more now offer front back (action.Remove f) le (ap (λ (l : List Action). is_one_of (paths_removed l) (Some f.path)) is ∙ own_text removed_path front back (action.Remove f) f.path refl)
told_by log more now offer front back (action.Add f) is mark le =
    let mine : is_one_of (paths_added offer.actions) (Some f.path) ≡ true = ap (λ (l : List Action). is_one_of (paths_added l) (Some f.path)) is ∙ own_text added_path front back (action.Add f) f.path refl in
    as_add log more now offer front back (action.Add f) le (or_left (is_one_of (paths_added offer.actions) (Some f.path)) (is_one_of (paths_removed offer.actions) (Some f.path) || false) mine)
told_by log more now offer front back (action.Cdc f) is mark le = absurd cc
told_by log more now offer front back (action.CommitInfo i) is mark le = absurd cc

refused : (o : Option Conflict) (commit : List Action) → IsTold o → (x : Conflict) × (unless_conflict o commit ≡ Err x)
refused None commit t = absurd (let e = t.is in cc)
refused (Some x) commit t = (x, refl)

-- ---- an offer that was admitted had read a version of the log

read_there : (versions : ℕ) (read : Option ℕ) → read_ahead versions read ≡ None → next_version read ≤ versions
read_there versions None e = omega arith
read_there versions (Some version) e = below (nat_lt version versions) refl e
  where
    below : (b : Bool) → nat_lt version versions ≡ b → cond b None (Some (conflict.ReadAhead (last_of versions))) ≡ None → version + 1 ≤ versions
    below true is none = let lt : version < versions = search (arith, is) in omega arith
    below false is none = absurd (some_conflict (conflict.ReadAhead (last_of versions)) none)

admitted_read : (log : List (List Action)) (now : ℕ) (offer : Offer) → conflict_of log now offer ≡ None → next_version offer.read ≤ length log
admitted_read log now offer e =
    let rest = option_or (unwritten (last_protocol (actions_in log)) offer.actions) (option_or (bad_offer log now offer) (option_or (appends_only (last_meta (actions_in log)) offer.actions) (absent (read_state log offer.read) offer.actions))) in
    let own = neither (own_conflict log now offer) (winners_conflict log (read_state log offer.read) offer) e in
    read_there (length log) offer.read (neither (read_ahead (length log) offer.read) rest own.0).0

made_again : (log more : List (List Action)) (now later : ℕ) (offer : Offer) → next_version offer.read ≤ length log → list_any is_marked offer.actions ≡ true
    → (x : Conflict) × (admitted (log ++ commit_with now offer.actions ∷ more) later offer ≡ Err x)
made_again log more now later offer le marked =
    let s = split is_marked offer.actions marked in
    let all : List (List Action) = log ++ commit_with now offer.actions ∷ more in
    let told : IsTold (winners_conflict all (read_state all offer.read) offer) =
    subst (λ (l : List Action). IsTold (winners_conflict (log ++ commit_with now l ∷ more) (read_state (log ++ commit_with now l ∷ more) offer.read) offer)) (sym s.is) (told_by log more now offer s.front s.back s.one s.is s.passes le) in
    refused (conflict_of all later offer) (commit_with later offer.actions) (told_then (own_conflict all later offer) (winners_conflict all (read_state all offer.read) offer) told)

pub retries : RetriesAreRefused
retries log more now later offer commit is marked =
    let c = no_conflict (conflict_of log now offer) (commit_with now offer.actions) commit is in
    subst (λ (made : List Action). (x : Conflict) × (admitted (log ++ made ∷ more) later offer ≡ Err x)) (sym c.1) (made_again log more now later offer (admitted_read log now offer c.0) marked)
