-- The tests of names, tables and pairs, and what a put and a take leave at a key.
use Rattle.std.proofs.Common.{◌≡◌, ◌≢◌, ℕ, List, [], ◌∷◌, Bool, true, false, cond, ◌&&◌, ◌||◌, Some, None, refl, sym, ap, ◌∙◌, true≢false, bytes_eq, Ordering, Less, Equal, Greater}
use Rattle.std.specs.Prelude.{is_some}
use Rattle.std.specs.Ordering.{is_eq, ordering_then, eq_by_cmp}
use Rattle.std.specs.Cmp.{both_ways}
use Rattle.std.specs.FinMap.Entries.{find, put, find-put, is_sorted}
use Rattle.std.proofs.lemmas.Cmp.{nat_list_cmp_total}
use Rattle.std.proofs.lemmas.Map.Text.{is_eq-slice_cmp}
use Rattle.std.proofs.lemmas.Slice.Eq.{bytes_eq-Decides}
use Rattle.share_catalog.specs.declared.table_name.TableName.{TableName}
use Rattle.share_catalog.specs.Catalogue.{is_pair, is_table}
use Rattle.share_catalog.specs.Entries.{texts}
use Rattle.share_catalog.specs.Maps.{bytes_cmp}
use Rattle.share_catalog.specs.Sorted.{take_out}
use Rattle.share_catalog.specs.TableNames.{parts_of, texts_cmp}
use Rattle.share_catalog.proofs.Orders.{texts_total}
use Rattle.share_catalog.proofs.SortedLemmas.{find-take_out}

pub each : (a b : Bool) → (a && b) ≡ true → (a ≡ true) × (b ≡ true)
each true b e = (refl, e)
each false b e = absurd (true≢false (sym e))

pub some_none : {A : Type 0} (x : A) → Some x ≢ None
some_none x e = true≢false (ap is_some e)

pub neither : (a b : Bool) → (a || b) ≡ false → (a ≡ false) × (b ≡ false)
neither true b e = absurd (true≢false e)
neither false b e = (refl, e)

pub bytes_refl : (x : List ℕ) → bytes_eq x x ≡ true
bytes_refl x = (bytes_eq-Decides x x).1 refl

pub bytes_is : (x y : List ℕ) → bytes_eq x y ≡ true → x ≡ y
bytes_is x y e = (bytes_eq-Decides x y).0 e

pub bytes_sym : (x y : List ℕ) → bytes_eq x y ≡ bytes_eq y x
bytes_sym x y = both_ways (bytes_eq x y) (bytes_eq y x) (λ e. (bytes_eq-Decides y x).1 (sym (bytes_is x y e))) (λ e. (bytes_eq-Decides x y).1 (sym (bytes_is y x e)))

pub pair_is : (r s r' s' : List ℕ) → is_pair r s r' s' ≡ true → (r ≡ r') × (s ≡ s')
pair_is r s r' s' e = let p = each (bytes_eq r r') (bytes_eq s s') e in (bytes_is r r' p.0, bytes_is s s' p.1)

pub pair_refl : (r s : List ℕ) → is_pair r s r s ≡ true
pair_refl r s = rw (bytes_refl r, bytes_refl s) refl

pub pair_sym : (r s r' s' : List ℕ) → is_pair r s r' s' ≡ is_pair r' s' r s
pair_sym r s r' s' = rw (bytes_sym r r', bytes_sym s s') refl

pub table_is : (t u : TableName) → is_table t u ≡ true → t ≡ u
table_is t u e =
    let p = each (bytes_eq t.share u.share) (is_pair t.schema t.table u.schema u.table) e in
    let share = bytes_is t.share u.share p.0 in
    let rest = pair_is t.schema t.table u.schema u.table p.1 in
    λ i. record { share = share i; schema = rest.0 i; table = rest.1 i }

pub table_refl : (t : TableName) → is_table t t ≡ true
table_refl t = rw (bytes_refl t.share, pair_refl t.schema t.table) refl

pub table_sym : (t u : TableName) → is_table t u ≡ is_table u t
table_sym t u = rw (bytes_sym t.share u.share, pair_sym t.schema t.table u.schema u.table) refl

pub both_tie : (o p : Ordering) → is_eq (ordering_then o p) ≡ (is_eq o && is_eq p)
both_tie Less p = refl
both_tie Equal p = refl
both_tie Greater p = refl

and_true : (b : Bool) → (b && true) ≡ b
and_true true = refl
and_true false = refl

pub name_tie : (a b : List ℕ) → eq_by_cmp texts_cmp (a ∷ []) (b ∷ []) ≡ bytes_eq a b
name_tie a b = both_tie (bytes_cmp a b) (texts_cmp [] []) ∙ and_true (is_eq (bytes_cmp a b)) ∙ is_eq-slice_cmp a b

pub pair_tie : (a b c d : List ℕ) → eq_by_cmp texts_cmp (texts a b) (texts c d) ≡ is_pair a b c d
pair_tie a b c d =
    both_tie (bytes_cmp a c) (texts_cmp (b ∷ []) (d ∷ []))
    ∙ ap (λ x. is_eq (bytes_cmp a c) && x) (both_tie (bytes_cmp b d) (texts_cmp [] []) ∙ and_true (is_eq (bytes_cmp b d)))
    ∙ ap (λ x. x && is_eq (bytes_cmp b d)) (is_eq-slice_cmp a c)
    ∙ ap (λ x. bytes_eq a c && x) (is_eq-slice_cmp b d)

pub table_tie : (t u : TableName) → eq_by_cmp texts_cmp (parts_of t) (parts_of u) ≡ is_table t u
table_tie t u =
    both_tie (bytes_cmp t.share u.share) (texts_cmp (texts t.schema t.table) (texts u.schema u.table))
    ∙ ap (λ x. x && is_eq (texts_cmp (texts t.schema t.table) (texts u.schema u.table))) (is_eq-slice_cmp t.share u.share)
    ∙ ap (λ x. bytes_eq t.share u.share && x) (pair_tie t.schema t.table u.schema u.table)

pub name_put : {V : Type 0} (q n : List ℕ) (v : V) (es : List (List ℕ × V)) → find bytes_cmp q (put bytes_cmp n v es) ≡ cond (bytes_eq n q) (Some v) (find bytes_cmp q es)
name_put q n v es = find-put bytes_cmp nat_list_cmp_total q n v es ∙ ap (λ b. cond b (Some v) (find bytes_cmp q es)) (is_eq-slice_cmp q n ∙ bytes_sym q n)

pub name_taken : {V : Type 0} (q n : List ℕ) (es : List (List ℕ × V)) → is_sorted bytes_cmp es ≡ true → find bytes_cmp q (take_out bytes_cmp n es) ≡ cond (bytes_eq n q) None (find bytes_cmp q es)
name_taken q n es sorted = find-take_out bytes_cmp nat_list_cmp_total q n es sorted ∙ ap (λ b. cond b None (find bytes_cmp q es)) (is_eq-slice_cmp q n ∙ bytes_sym q n)

pub table_put : {V : Type 0} (q n : TableName) (v : V) (es : List (List (List ℕ) × V)) → find texts_cmp (parts_of q) (put texts_cmp (parts_of n) v es) ≡ cond (is_table n q) (Some v) (find texts_cmp (parts_of q) es)
table_put q n v es = find-put texts_cmp texts_total (parts_of q) (parts_of n) v es ∙ ap (λ b. cond b (Some v) (find texts_cmp (parts_of q) es)) (table_tie q n ∙ table_sym q n)

pub pair_put : {V : Type 0} (r s a b : List ℕ) (v : V) (es : List (List (List ℕ) × V))
    → find texts_cmp (texts r s) (put texts_cmp (texts a b) v es) ≡ cond (is_pair a b r s) (Some v) (find texts_cmp (texts r s) es)
pair_put r s a b v es = find-put texts_cmp texts_total (texts r s) (texts a b) v es ∙ ap (λ x. cond x (Some v) (find texts_cmp (texts r s) es)) (pair_tie r s a b ∙ pair_sym r s a b)
