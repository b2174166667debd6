-- What is run through among entries in order is what begins with a text.
use Rattle.std.proofs.Common.{◌≡◌, ℕ, zero, suc, ◌<◌, ◌≤◌, List, [], ◌∷◌, Bool, true, false, cond, T, Option, Some, None, map, option_map, option_and_then, length, drop, get_or, refl, sym, ap, ◌∙◌, subst, Less, Equal, Greater, Ordering, arith, true≢false, inl, inr, ◌⊎◌, Result, Ok, Err, IfOk, All}
use Rattle.std.specs.List.{cons_option}
use Rattle.std.specs.List.Sorted.{IsPartitionedBy}
use Rattle.std.proofs.lemmas.Bool.{cases_lt}
use Rattle.std.proofs.lemmas.List.Elements.{All-nil, All-cons}
use Rattle.std.specs.Ordering.{is_lt, is_eq, ordering_then, ordering_reverse, eq_by_cmp}
use Rattle.std.specs.FinMap.{nat_cmp-IsAntisymmetric, slice_cmp-IsAntisymmetric}
use Rattle.std.specs.FinMap.Entries.{by_order, find, below_all, is_sorted}
use Rattle.std.proofs.lemmas.Cmp.{nat_list_cmp_total}
use Rattle.share_catalog.specs.declared.sorted.Entry.{Entry}
use Rattle.share_catalog.specs.declared.edit.Binding.{Binding}
use Rattle.share_catalog.specs.declared.edit.Edit.{Edit}
use Rattle.share_catalog.specs.declared.listing.Bound.{Bound}
use Rattle.share_catalog.specs.declared.listing.Granted.{Granted}
use Rattle.share_catalog.specs.declared.state.GrantState.{GrantState}
use Rattle.share_catalog.specs.declared.state.RecipientState.{RecipientState}
use Rattle.share_catalog.specs.declared.state.ShareState.{ShareState}
use Rattle.share_catalog.specs.declared.state.TableState.{TableState}
use Rattle.share_catalog.specs.declared.table_name.TableName.{TableName}
use Rattle.share_catalog.specs.Catalogue.{binding_edition, bound, grant_edition, granted, said}
use Rattle.share_catalog.specs.Entries.{entries}
use Rattle.share_catalog.specs.Fits.{Fits}
use Rattle.share_catalog.specs.Kept.{kept_grant, kept_table}
use Rattle.share_catalog.specs.Listed.{bound_entry, grant_entry, run, whole_entry, whole_run}
use Rattle.share_catalog.specs.Listing.{ListsBindings, ListsGrants}
use Rattle.share_catalog.specs.Maps.{Maps, bound_by, bytes_cmp, grant_times, grant_in, granted_by, recipient_in, share_in, share_stands, share_times, since, table_edition, table_in}
use Rattle.share_catalog.specs.TableNames.{texts_cmp}
use Rattle.share_catalog.proofs.Orders.{texts_total}
use Rattle.share_catalog.proofs.SortedLemmas.{both, earlier, held, in_both, less, none_after, none_below, shown}

pub same_texts : (a b : List (List ℕ)) → texts_cmp a b ≡ Equal → a ≡ b
same_texts a b e = slice_cmp-IsAntisymmetric (slice_cmp-IsAntisymmetric nat_cmp-IsAntisymmetric) a b e

pub tie_of : (o : Ordering) → is_eq o ≡ true → o ≡ Equal
tie_of Less e = absurd (true≢false (sym e))
tie_of Equal e = refl
tie_of Greater e = absurd (true≢false (sym e))

module _ {V Y : Type 0} (first : List ℕ) (keep : List (List ℕ) → V → Option Y) where
  -- what is kept at the key that follows the text
  abbrev pub KeptAt : List (List ℕ) → List (List (List ℕ) × V) → Option Y
  KeptAt q es = option_and_then (keep q) (find texts_cmp (first ∷ q) es)

  skip_case : (a : List ℕ) (rest : List (List ℕ)) (v : V) (es : List (List (List ℕ) × V)) → bytes_cmp first a ≡ Greater → run first keep ((a ∷ rest, v) ∷ es) ≡ run first keep es
  skip_case a rest v es e = ap (λ o. by_order o [] (cons_option (option_map (λ y. (rest, y)) (keep rest v)) (run first keep es)) (run first keep es)) e

  tie_case : (b : Bool) (o : Option Y) (q rest : List (List ℕ)) (found : Option V) (listed : List (List (List ℕ) × Y)) (v : V)
      → eq_by_cmp texts_cmp q rest ≡ b → keep rest v ≡ o → (b ≡ true → found ≡ None) → find texts_cmp q listed ≡ option_and_then (keep q) found
      → find texts_cmp q (cons_option (option_map (λ y. (rest, y)) o) listed) ≡ option_and_then (keep q) (cond b (Some v) found)
  tie_case true (Some y) q rest found listed v t k none ih =
      ap (λ b. cond b (Some y) (find texts_cmp q listed)) t ∙ sym k ∙ ap (λ r. keep r v) (sym (same_texts q rest (tie_of (texts_cmp q rest) t)))
  tie_case true None q rest found listed v t k none ih =
      ih ∙ ap (option_and_then (keep q)) (none refl) ∙ sym k ∙ ap (λ r. keep r v) (sym (same_texts q rest (tie_of (texts_cmp q rest) t)))
  tie_case false (Some y) q rest found listed v t k none ih = ap (λ b. cond b (Some y) (find texts_cmp q listed)) t ∙ ih
  tie_case false None q rest found listed v t k none ih = ih

  step : (o : Ordering) (q rest : List (List ℕ)) (a : List ℕ) (v : V) (es : List (List (List ℕ) × V)) → bytes_cmp first a ≡ o → T (is_sorted texts_cmp ((a ∷ rest, v) ∷ es))
      → find texts_cmp q (run first keep es) ≡ KeptAt q es
      → find texts_cmp q (by_order o [] (cons_option (option_map (λ y. (rest, y)) (keep rest v)) (run first keep es)) (run first keep es))
      ≡ option_and_then (keep q) (cond (is_eq (ordering_then o (texts_cmp q rest))) (Some v) (find texts_cmp (first ∷ q) es))
  step Less q rest a v es e sorted ih =
      ap (option_and_then (keep q)) (sym (none_below texts_cmp texts_total (first ∷ q) (a ∷ rest) es (ap (λ o. ordering_then o (texts_cmp q rest)) e) (both _ _ sorted).0))
  step Equal q rest a v es e sorted ih =
      tie_case (eq_by_cmp texts_cmp q rest) (keep rest v) q rest (find texts_cmp (first ∷ q) es) (run first keep es) v refl refl
      (λ t. none_after texts_cmp texts_total (first ∷ q) (a ∷ rest) es (ap (λ o. ordering_then o (texts_cmp q rest)) e ∙ tie_of (texts_cmp q rest) t) (both _ _ sorted).0) ih
  step Greater q rest a v es e sorted ih = ih

  runs : (q : List (List ℕ)) (es : List (List (List ℕ) × V)) → T (is_sorted texts_cmp es) → find texts_cmp q (run first keep es) ≡ KeptAt q es
  runs q [] sorted = refl
  runs q (([], v) ∷ es) sorted = runs q es (both _ _ sorted).1
  runs q ((a ∷ rest, v) ∷ es) sorted =
      step (bytes_cmp first a) q rest a v es refl sorted (runs q es (both _ _ sorted).1)
      ∙ ap (λ o. option_and_then (keep q) (cond (is_eq (ordering_then o (texts_cmp q rest))) (Some v) (find texts_cmp (first ∷ q) es))) refl

  -- what is run through has at a key what is kept there
  pub find-run : (q : List (List ℕ)) (es : List (List (List ℕ) × V)) → is_sorted texts_cmp es ≡ true → find texts_cmp q (run first keep es) ≡ KeptAt q es
  find-run q es sorted = runs q es (held _ sorted)

  cons_below : (x rest : List (List ℕ)) (o : Option Y) (listed : List (List (List ℕ) × Y)) → texts_cmp x rest ≡ Less → T (below_all texts_cmp x listed)
      → T (below_all texts_cmp x (cons_option (option_map (λ y. (rest, y)) o) listed))
  cons_below x rest None listed lt h = h
  cons_below x rest (Some y) listed lt h = in_both _ _ (subst (λ o. T (is_lt o)) (sym lt) tt) h

  below_step : (o : Ordering) (x rest : List (List ℕ)) (a : List ℕ) (v : V) (listed : List (List (List ℕ) × Y)) → bytes_cmp first a ≡ o → texts_cmp (first ∷ x) (a ∷ rest) ≡ Less
      → T (below_all texts_cmp x listed) → T (below_all texts_cmp x (by_order o [] (cons_option (option_map (λ y. (rest, y)) (keep rest v)) listed) listed))
  below_step Less x rest a v listed e lt h = tt
  below_step Equal x rest a v listed e lt h = cons_below x rest (keep rest v) listed (sym (ap (λ o. ordering_then o (texts_cmp x rest)) e) ∙ lt) h
  below_step Greater x rest a v listed e lt h = h

  run_below : (x : List (List ℕ)) (es : List (List (List ℕ) × V)) → T (below_all texts_cmp (first ∷ x) es) → T (below_all texts_cmp x (run first keep es))
  run_below x [] h = tt
  run_below x (([], v) ∷ es) h = run_below x es (both (is_lt (texts_cmp (first ∷ x) [])) _ h).1
  run_below x ((a ∷ rest, v) ∷ es) h = below_step (bytes_cmp first a) x rest a v (run first keep es) refl (less _ (both _ _ h).0) (run_below x es (both _ _ h).1)

  cons_sorted : (rest : List (List ℕ)) (o : Option Y) (listed : List (List (List ℕ) × Y)) → T (below_all texts_cmp rest listed) → T (is_sorted texts_cmp listed)
      → T (is_sorted texts_cmp (cons_option (option_map (λ y. (rest, y)) o) listed))
  cons_sorted rest None listed below h = h
  cons_sorted rest (Some y) listed below h = in_both _ _ below h

  sorted_step : (o : Ordering) (a : List ℕ) (rest : List (List ℕ)) (v : V) (es : List (List (List ℕ) × V)) → bytes_cmp first a ≡ o → T (below_all texts_cmp (a ∷ rest) es) → T (is_sorted texts_cmp (run first keep es))
      → T (is_sorted texts_cmp (by_order o [] (cons_option (option_map (λ y. (rest, y)) (keep rest v)) (run first keep es)) (run first keep es)))
  sorted_step Less a rest v es e below h = tt
  sorted_step Equal a rest v es e below h =
      let same : first ≡ a = slice_cmp-IsAntisymmetric nat_cmp-IsAntisymmetric first a e in
      cons_sorted rest (keep rest v) (run first keep es) (run_below rest es (subst (λ x. T (below_all texts_cmp (x ∷ rest) es)) (sym same) below)) h
  sorted_step Greater a rest v es e below h = h

  sorted_runs : (es : List (List (List ℕ) × V)) → T (is_sorted texts_cmp es) → T (is_sorted texts_cmp (run first keep es))
  sorted_runs [] sorted = tt
  sorted_runs (([], v) ∷ es) sorted = sorted_runs es (both _ _ sorted).1
  sorted_runs ((a ∷ rest, v) ∷ es) sorted = sorted_step (bytes_cmp first a) a rest v es refl (both _ _ sorted).0 (sorted_runs es (both _ _ sorted).1)

  -- what is run through stands in order
  pub is_sorted-run : (es : List (List (List ℕ) × V)) → is_sorted texts_cmp es ≡ true → is_sorted texts_cmp (run first keep es) ≡ true
  is_sorted-run es sorted = shown _ (sorted_runs es (held _ sorted))

module _ {V Y : Type 0} (first : List ℕ) (keep : List (List ℕ) → V → Option Y) where
  -- the text before a key
  abbrev pub behind : List (List ℕ) × Y → List (List ℕ) × Y
  behind e = (first ∷ e.0, e.1)

  whole_cons : (a : List ℕ) (rest : List (List ℕ)) (o : Option Y) (xs : List (List (List ℕ) × Y)) → first ≡ a
      → cons_option (option_map (λ y. (a ∷ rest, y)) o) (map behind xs) ≡ map behind (cons_option (option_map (λ y. (rest, y)) o) xs)
  whole_cons a rest None xs same = refl
  whole_cons a rest (Some y) xs same = ap (λ x. (x ∷ rest, y) ∷ map behind xs) (sym same)

  whole_step : (o : Ordering) (a : List ℕ) (rest : List (List ℕ)) (v : V) (xs : List (List (List ℕ) × Y)) → bytes_cmp first a ≡ o
      → by_order o [] (cons_option (option_map (λ y. (a ∷ rest, y)) (keep rest v)) (map behind xs)) (map behind xs)
      ≡ map behind (by_order o [] (cons_option (option_map (λ y. (rest, y)) (keep rest v)) xs) xs)
  whole_step Less a rest v xs e = refl
  whole_step Equal a rest v xs e = whole_cons a rest (keep rest v) xs (slice_cmp-IsAntisymmetric nat_cmp-IsAntisymmetric first a e)
  whole_step Greater a rest v xs e = refl

  -- the keys that are whole are those behind the text
  pub whole_is : (es : List (List (List ℕ) × V)) → whole_run first keep es ≡ map behind (run first keep es)
  whole_is [] = refl
  whole_is (([], v) ∷ es) = whole_is es
  whole_is ((a ∷ rest, v) ∷ es) =
      ap (λ xs. by_order (bytes_cmp first a) [] (cons_option (option_map (λ y. (a ∷ rest, y)) (keep rest v)) xs) xs) (whole_is es)
      ∙ whole_step (bytes_cmp first a) a rest v (run first keep es) refl

first_case : (o p : Ordering) → ordering_then o p ≡ Less → (o ≡ Less) ⊎ (o ≡ Equal)
first_case Less p e = inl refl
first_case Equal p e = inr refl
first_case Greater p e = absurd (true≢false (sym (ap is_lt e)))

still_less : (a b s : List ℕ) → (bytes_cmp a b ≡ Less) ⊎ (bytes_cmp a b ≡ Equal) → bytes_cmp b s ≡ Less → is_lt (bytes_cmp a s) ≡ true
still_less a b s (inl e) lt = ap is_lt (nat_list_cmp_total.trans a b s e lt)
still_less a b s (inr e) lt = ap is_lt (nat_list_cmp_total.congr a b s e ∙ lt)

pub is_less : (o : Ordering) → is_lt o ≡ true → o ≡ Less
is_less o e = less o (held _ e)

module _ {K V : Type 0} (seen : K → List (List ℕ)) (head : K → List ℕ) (tail : K → List (List ℕ)) (shape : (k : K) → seen k ≡ head k ∷ tail k) where
  -- what begins with less is passed over
  pub run_later : {Y : Type 0} (first : List ℕ) (keep : List (List ℕ) → V → Option Y) (xs : List (Entry K V)) (i : ℕ)
      → ((k : ℕ) (d : Entry K V) → 0 ≤ k → k < i → bytes_cmp (head (get_or xs k d).key) first ≡ Less)
      → run first keep (entries seen xs) ≡ run first keep (entries seen (drop i xs))
  run_later first keep xs zero before = refl
  run_later first keep [] (suc i) before = refl
  run_later first keep (x ∷ xs) (suc i) before =
      ap (λ k. run first keep ((k, x.value) ∷ entries seen xs)) (shape x.key)
      ∙ skip_case first keep (head x.key) (tail x.key) x.value (entries seen xs) (nat_list_cmp_total.antisymm first (head x.key) ∙ ap ordering_reverse (before 0 x (omega arith) (omega arith)))
      ∙ run_later first keep xs i (λ k d low lt. before (suc k) d (omega arith) (omega (arith, lt)))

  pub whole_run_later : {Y : Type 0} (first : List ℕ) (keep : List (List ℕ) → V → Option Y) (xs : List (Entry K V)) (i : ℕ)
      → ((k : ℕ) (d : Entry K V) → 0 ≤ k → k < i → bytes_cmp (head (get_or xs k d).key) first ≡ Less)
      → whole_run first keep (entries seen xs) ≡ whole_run first keep (entries seen (drop i xs))
  whole_run_later first keep xs i before =
      whole_is first keep (entries seen xs) ∙ ap (map (behind first keep)) (run_later first keep xs i before) ∙ sym (whole_is first keep (entries seen (drop i xs)))

  part_case : (xs : List (Entry K V)) (s : List ℕ) (i j : ℕ) (d : Entry K V) → is_sorted texts_cmp (entries seen xs) ≡ true → (i < j) ⊎ (j ≤ i) → i ≤ j → j < length xs
      → is_lt (bytes_cmp (head (get_or xs j d).key) s) ≡ true → is_lt (bytes_cmp (head (get_or xs i d).key) s) ≡ true
  part_case xs s i j d sorted (inl lt) le low is =
      let x = get_or xs i d in
      let y = get_or xs j d in
      let ordered : texts_cmp (head x.key ∷ tail x.key) (head y.key ∷ tail y.key) ≡ Less =
      subst (λ k. texts_cmp k (head y.key ∷ tail y.key) ≡ Less) (shape x.key) (subst (λ k. texts_cmp (seen x.key) k ≡ Less) (shape y.key) (earlier texts_cmp seen xs i j d (held _ sorted) lt low)) in
      still_less (head x.key) (head y.key) s (first_case (bytes_cmp (head x.key) (head y.key)) (texts_cmp (tail x.key) (tail y.key)) ordered) (is_less _ is)
  part_case xs s i j d sorted (inr ge) le low is =
      let same : j ≡ i = omega (arith, le, ge) in
      subst (λ k. is_lt (bytes_cmp (head (get_or xs k d).key) s) ≡ true) same is

  -- those that begin with less stand before the others
  pub partitioned : (xs : List (Entry K V)) (s : List ℕ) → is_sorted texts_cmp (entries seen xs) ≡ true → IsPartitionedBy (λ x. is_lt (bytes_cmp (head x.key) s)) xs
  partitioned xs s sorted = λ i j d le low is. part_case xs s i j d sorted (cases_lt i j) le low is

pub weaker : {A E : Type 0} (r : Result A E) (P Q : A → Type 0) → ((x : A) → P x → Q x) → IfOk r P → IfOk r Q
weaker (Ok x) P Q f h = f x h
weaker (Err e) P Q f h = h

-- ---- what the catalogue lists

none_either : (b : Bool) (f : Binding → Binding × ℕ) → None ≡ option_map f (cond b None None)
none_either true f = refl
none_either false f = refl

table_kept : (so : Option ShareState) (q : List (List ℕ)) (o : Option TableState) → option_and_then (kept_table so q) o ≡ option_map (λ b. (b, table_edition o)) (bound_by so o)
table_kept so q None = none_either (since (share_stands so) (share_times so) 0) (λ b. (b, 0))
table_kept so q (Some t) = refl

same_bound : (o o' : Option Binding) (n n' : ℕ) → o ≡ o' → n ≡ n' → option_map {U = Binding × ℕ} (λ b. (b, n)) o ≡ option_map {U = Binding × ℕ} (λ b. (b, n')) o'
same_bound o o' n n' p q = rw (p, q) refl

cons_parts : {A : Type 0} (x y : A) (xs ys : List A) → x ∷ xs ≡ y ∷ ys → (x ≡ y) × (xs ≡ ys)
cons_parts x y xs ys e = (cc, cc)

pair_parts : {A B : Type 0} (p q : A × B) → p ≡ q → (p.0 ≡ q.0) × (p.1 ≡ q.1)
pair_parts p q e = (ap (λ x. x.0) e, ap (λ x. x.1) e)

abbrev Row : Type 0
Row = List (List ℕ) × (Binding × ℕ)

abbrev row_behind : List ℕ → Row → Row
row_behind s row = (s ∷ row.0, row.1)

same_row : (k k' : List (List ℕ)) (x x' : Binding × ℕ) → k ≡ k' → x ≡ x' → ◌≡◌ {A = Row} (k, x) (k', x')
same_row k k' x x' p q = rw (p, q) refl

row_parts : (s : List ℕ) (b : Bound) (row : Row) → whole_entry b ≡ row_behind s row → (bound_entry b ≡ row) × (b.table.now.share ≡ s)
row_parts s b row e =
    let both = pair_parts {A = List (List ℕ)} {B = Binding × ℕ} (whole_entry b) (row_behind s row) e in
    let key = cons_parts b.table.now.share s (b.table.now.schema ∷ b.table.now.table ∷ []) row.0 both.0 in
    (same_row (b.table.now.schema ∷ b.table.now.table ∷ []) row.0 (b.binding.now, b.edition.now) row.1 key.1 both.1, key.0)

-- the bindings by the names behind the share, and whose they are
parted : (s : List ℕ) (items : List Bound) (rows : List Row) → map whole_entry items ≡ map (row_behind s) rows
    → (map bound_entry items ≡ rows) × All (λ b. b.table.now.share ≡ s) items
parted s [] [] e = (refl, All-nil (λ b. b.table.now.share ≡ s))
parted s [] (row ∷ rows) e = absurd cc
parted s (b ∷ items) [] e = absurd cc
parted s (b ∷ items) (row ∷ rows) e =
    let cut = cons_parts (whole_entry b) (row_behind s row) (map whole_entry items) (map (row_behind s) rows) e in
    let here = row_parts s b row cut.0 in
    let more = parted s items rows cut.1 in
    (ap (λ r. r ∷ map bound_entry items) here.0 ∙ ap (λ rs. row ∷ rs) more.0, All-cons (λ x. x.table.now.share ≡ s) b items here.1 more.1)

pub lists_bindings : (m : Maps) (edits : List Edit) (s : List ℕ) (items : List Bound) → Fits m edits → map whole_entry items ≡ whole_run s (kept_table (share_in m s)) m.tables → ListsBindings edits s items
lists_bindings m edits s items fits whole =
    let parts = parted s items (run s (kept_table (share_in m s)) m.tables) (whole ∙ whole_is s (kept_table (share_in m s)) m.tables) in
    let is = parts.0 in record {
      of = parts.1;
      ordered = ap (is_sorted texts_cmp) is ∙ is_sorted-run s (kept_table (share_in m s)) m.tables fits.sorted.tables;
      exact = λ schema table.
          let t : TableName = record { share = s; schema = schema; table = table } in
          ap (find texts_cmp (schema ∷ table ∷ [])) is ∙ find-run s (kept_table (share_in m s)) (schema ∷ table ∷ []) m.tables fits.sorted.tables
          ∙ table_kept (share_in m s) (schema ∷ table ∷ []) (table_in m t)
          ∙ same_bound (bound_by (share_in m s) (table_in m t)) (bound edits t) (table_edition (table_in m t)) (binding_edition edits t) (fits.tables t).binding (fits.tables t).edition;
    }

grant_kept : (m : Maps) (ro : Option RecipientState) (s : List ℕ) (o : Option GrantState) → option_and_then (kept_grant m ro (s ∷ [])) o ≡ said (granted_by ro (share_in m s) o) (grant_times o)
grant_kept m ro s None = refl
grant_kept m ro s (Some g) = refl

same_said : (b b' : Bool) (n n' : ℕ) → b ≡ b' → n ≡ n' → said b n ≡ said b' n'
same_said b b' n n' p q = rw (p, q) refl

pub lists_grants : (m : Maps) (edits : List Edit) (r : List ℕ) (items : List Granted) → Fits m edits → map grant_entry items ≡ run r (kept_grant m (recipient_in m r)) m.grants → ListsGrants edits r items
lists_grants m edits r items fits is = record {
  ordered = ap (is_sorted texts_cmp) is ∙ is_sorted-run r (kept_grant m (recipient_in m r)) m.grants fits.sorted.grants;
  exact = λ s.
      ap (find texts_cmp (s ∷ [])) is ∙ find-run r (kept_grant m (recipient_in m r)) (s ∷ []) m.grants fits.sorted.grants
      ∙ grant_kept m (recipient_in m r) s (grant_in m r s)
      ∙ same_said (granted_by (recipient_in m r) (share_in m s) (grant_in m r s)) (granted edits r s) (grant_times (grant_in m r s)) (grant_edition edits r s) (fits.grants r s).given (fits.grants r s).edition;
}
