-- The logs of a history, by their locations.
use Rattle.std.proofs.Common.{◌≡◌, ℕ, ◌+◌, ◌-◌, ◌<◌, ◌≤◌, Bool, true, false, List, [], ◌∷◌, ◌++◌, length, map, not, nat_lt, cond, Option, Some, None, suc, sym, refl, ap, ◌∙◌, subst, arith, append_assoc, length-append, bytes_eq, get_or}
use Rattle.std.specs.List.{filter_map, slice_get, position, position_or_len, prefix_len}
use Rattle.std.specs.Option.{option_and_then, option_map}
use Rattle.std.proofs.lemmas.List.{append-nil, length-map}
use Rattle.share_catalog.specs.declared.edit.Edit.{Edit}
use Rattle.share_book.specs.declared.entry.Entry.{Entry}
use Rattle.share_book.specs.declared.entry.LogStart.{LogStart}
use Rattle.share_book.specs.declared.entry.Act.{Act}
use Rattle.share_book.specs.declared.entry.Act.TheVariants.{Begin, Own, Found, OwnEdit, FoundEdit, Load, Blocked, Abort}
use Rattle.share_book.specs.History.{block_on, commit_on, grown, start_in, start_of, starts, table_on}
use Rattle.share_book.specs.Legal.{Fits, IsLegal, May, is_at, locations_of}
use Rattle.share_book.specs.TableView.{TableLog, TableView}
use Rattle.share_book.specs.PastView.{PastView}
use Rattle.share_book.specs.Books.{IsBook, is_table_at}
use Rattle.share_book.specs.Views.{log_at, seen_log}
use Rattle.share_book.proofs.Bookkeeping.{mapped, table_there}
use Rattle.share_book.proofs.Words.{loud, quiet}

-- a log is loaded after fewer than 32
load_few : (h : List Entry) (k j : ℕ) (a : Act) (s : LogStart) → start_of a ≡ Some s → Fits h k j a → length (starts h) < 32
load_few h k j Begin s is f = absurd cc
load_few h k j (Own c) s is f = absurd cc
load_few h k j (Found c) s is f = absurd cc
load_few h k j (OwnEdit e) s is f = absurd cc
load_few h k j (FoundEdit e) s is f = absurd cc
load_few h k j (Load t) s is f = f.1.1
load_few h k j (Blocked n) s is f = absurd cc
load_few h k j Abort s is f = absurd cc

few_more : (h : List Entry) (e : Entry) → May h e → length (starts h) ≤ 32 → (o : Option LogStart) → start_in e ≡ o → length (starts (h ++ e ∷ [])) ≤ 32
few_more h e may few None is = subst (λ (l : List LogStart). length l ≤ 32) (sym (quiet start_in h e is)) few
few_more h e may few (Some s) is =
    let less : length (starts h) < 32 = load_few h e.caller e.log e.act s is may.1 in
    let push : length (starts (h ++ e ∷ [])) ≡ length (starts h) + 1 = ap (λ (l : List LogStart). length l) (loud start_in h e s is) ∙ length-append (starts h) (s ∷ []) in
    omega arith

few_by : (h front rest : List Entry) → h ≡ front ++ rest → IsLegal h → length (starts front) ≤ 32 → length (starts h) ≤ 32
few_by h front [] is legal few = subst (λ (l : List Entry). length (starts l) ≤ 32) (sym (is ∙ append-nil front)) few
few_by h front (e ∷ rest) is legal few = few_by h (front ++ e ∷ []) rest (is ∙ sym (append_assoc front (e ∷ []) rest)) legal (few_more front e (legal front e rest is) few (start_in e) refl)

-- a legal history has at most 32 logs
pub few_logs : (h : List Entry) → IsLegal h → length (starts h) ≤ 32
few_logs h legal = few_by h [] h refl legal (omega arith)

map_same : {X Y Z : Type 0} (f : X → Z) (g : Y → Z) (xs : List X) (ys : List Y) → ((i : ℕ) → option_map f (slice_get xs i) ≡ option_map g (slice_get ys i)) → map f xs ≡ map g ys
map_same f g [] [] s = refl
map_same f g [] (y ∷ ys) s = absurd (cc (s 0))
map_same f g (x ∷ xs) [] s = absurd (cc (s 0))
map_same f g (x ∷ xs) (y ∷ ys) s = let h : f x ≡ g y = cc (s 0) in let t = map_same f g xs ys (λ i. s (suc i)) in λ i. h i ∷ t i

-- the tables stand at the locations of the logs
pub locations_at : (p : PastView) (es : List Edit) (tables : List TableView) (tl tc : ℕ) → IsBook p es tables tl tc → map (λ (t : TableView). t.log.location) tables ≡ locations_of p.history
locations_at p es tables tl tc b = map_same (λ (t : TableView). t.log.location) (λ (s : LogStart). s.location) tables (starts p.history) (λ i.
    let at : TableLog → List ℕ = λ t. t.location in
    let g : LogStart → TableLog = grown (filter_map (commit_on (i + 1)) p.history) (filter_map (block_on (i + 1)) p.history) in
    let q : i + 1 - 1 ≡ i = omega arith in
    let l : option_map (λ (t : TableView). t.log) (slice_get tables i) ≡ option_map g (slice_get (starts p.history) i) = subst (λ (n : ℕ). option_map (λ (t : TableView). t.log) (slice_get tables n) ≡ option_map g (slice_get (starts p.history) n)) q (b.logs (i + 1) (omega arith)) in
    sym (mapped at (λ (t : TableView). t.log) (slice_get tables i)) ∙ (ap (option_map at) l ∙ mapped at g (slice_get (starts p.history) i)))

prefix_map : {X Y : Type 0} (f : X → Y) (q : Y → Bool) (xs : List X) → prefix_len (λ x. q (f x)) xs ≡ prefix_len q (map f xs)
prefix_map f q [] = refl
prefix_map f q (x ∷ xs) = ap (λ n. cond (q (f x)) (1 + n) 0) (prefix_map f q xs)

position_map : {X Y : Type 0} (f : X → Y) (p : Y → Bool) (xs : List X) → position (λ x. p (f x)) xs ≡ position p (map f xs)
position_map f p xs =
    let a = prefix_map f (λ y. not (p y)) xs in
    let b = sym (length-map xs f) in
    λ i. cond (nat_lt (a i) (b i)) (Some (a i)) None

-- the place of a location among the tables is that among the logs
pub position_at : (p : PastView) (es : List Edit) (tables : List TableView) (tl tc : ℕ) → IsBook p es tables tl tc → (location : List ℕ) → position (is_table_at location) tables ≡ position (is_at location) (starts p.history)
position_at p es tables tl tc b location =
    position_map (λ (t : TableView). t.log.location) (λ l. bytes_eq l location) tables
    ∙ ap (position (λ l. bytes_eq l location)) (locations_at p es tables tl tc b)
    ∙ sym (position_map (λ (s : LogStart). s.location) (λ l. bytes_eq l location) (starts p.history))

less_by : (b : Bool) (n m i : ℕ) → nat_lt n m ≡ b → cond b (Some n) None ≡ Some i → i < m
less_by true n m i e is = let same : n ≡ i = cc is in let lt : n < m = search (arith, e) in omega (arith, same, lt)
less_by false n m i e is = absurd cc

-- what is found stands in the list
pub position_less : {X : Type 0} (p : X → Bool) (xs : List X) (i : ℕ) → position p xs ≡ Some i → i < length xs
position_less p xs i is = less_by _ (position_or_len p xs) (length xs) i refl is

-- the log of a place among the tables is that of the location
pub seen_at : (p : PastView) (es : List Edit) (tables : List TableView) (tl tc : ℕ) → IsBook p es tables tl tc → (location : List ℕ) (i : ℕ) (t : TableView) → position (is_at location) (starts p.history) ≡ Some i → i < length tables → t ≡ get_or tables i t
    → seen_log (Some t.log) ≡ log_at p.history location
seen_at p es tables tl tc b location i t place less is =
    let q : i + 1 - 1 ≡ i = omega arith in
    let count = b.count in
    let there : table_on (i + 1) p.history ≡ Some t.log = table_there p es tables tl tc b (i + 1) (omega arith) (omega (arith, less, count)) t (is ∙ ap (λ (n : ℕ). get_or tables n t) (sym q)) in
    sym (ap seen_log there) ∙ sym (ap (λ (o : Option ℕ). seen_log (option_and_then (λ number. table_on number p.history) (option_map (λ n. n + 1) o))) place)

pub none_seen : (h : List Entry) (location : List ℕ) → position (is_at location) (starts h) ≡ None → seen_log None ≡ log_at h location
none_seen h location none = sym (ap (λ (o : Option ℕ). seen_log (option_and_then (λ number. table_on number h) (option_map (λ n. n + 1) o))) none)
