-- Objects in byte order of name, as a list and as a map.
use Rattle.std.proofs.Common.{◌≡◌, ℕ, suc, ◌≤◌, List, [], ◌∷◌, length, sym, ◌∙◌, ap, refl, subst, Bool, true, false, cond, T, Some, None, is_eq, is_gt, Less, Equal, Greater, nat_cmp, arith, if◌then◌else◌}
use Rattle.std.specs.declared.cmp.Ordering.{Ordering}
use Rattle.std.specs.Cmp.Lexicographic.{slice_cmp}
use Rattle.std.specs.Cmp.{tied_itself}
use Rattle.std.specs.FinMap as finmap
use Rattle.std.specs.FinMap.Entries as entries
use Rattle.std.specs.List.{insert}
use Rattle.std.proofs.lemmas.Cmp.{nat_list_cmp_total}
use Rattle.edge_core.proofs.Basics.{some_none}
use Rattle.edge_core.specs.Objects.{Objects, GrowsTo, listing, segments_in}
use Rattle.edge_core.specs.Stored.{Shelved, with_one, rank}

abbrev pub R : List ℕ → List ℕ → Ordering
R = slice_cmp nat_cmp

abbrev Entry : Type 0
Entry = List ℕ × List ℕ

put_case : (e : Entry) (es : List Entry) (name bytes : List ℕ) (o : Ordering) → cond (is_eq o) (Some e.1) (entries.find R name es) ≡ None
    → (entries.find R name es ≡ None → entries.put R name bytes es ≡ insert es (rank name es) (name, bytes))
    → entries.by_order o ((name, bytes) ∷ e ∷ es) ((e.0, bytes) ∷ es) (e ∷ entries.put R name bytes es) ≡ insert (e ∷ es) (if is_gt o then suc (rank name es) else 0) (name, bytes)
put_case e es name bytes Less none ih = refl
put_case e es name bytes Equal none ih = absurd (some_none e.1 none)
put_case e es name bytes Greater none ih = ap (λ r. e ∷ r) (ih none)

-- a new name stands behind those that are below it
pub put_at : (es : List Entry) (name bytes : List ℕ) → entries.find R name es ≡ None → entries.put R name bytes es ≡ insert es (rank name es) (name, bytes)
put_at [] name bytes none = refl
put_at (e ∷ es) name bytes none = put_case e es name bytes (R name e.0) none (put_at es name bytes)

rank_case : (n k : ℕ) (b : Bool) → n ≤ k → (if b then suc n else 0) ≤ suc k
rank_case n k true le = omega arith
rank_case n k false le = omega arith

pub rank_within : (name : List ℕ) (es : List Entry) → rank name es ≤ length es
rank_within name [] = omega arith
rank_within name (e ∷ es) = rank_case (rank name es) (length es) (is_gt (R name e.0)) (rank_within name es)

holds : (b : Bool) → b ≡ true → T b
holds b e = subst T (sym e) tt

shown : (b : Bool) → T b → b ≡ true
shown true t = refl
shown false t = absurd t

pub empty_shelf : finmap.from_sorted {R = R} [] ≡ finmap.empty {K = List ℕ} {X = List ℕ}
empty_shelf = finmap.empty_of_len (finmap.from_sorted []) (finmap.len-entries (finmap.from_sorted {R = R} []) ∙ ap length (finmap.entries-from_sorted R [] tt))

pub get_sorted : (es : List Entry) (q : List ℕ) → entries.is_sorted R es ≡ true → entries.find R q es ≡ finmap.get (finmap.from_sorted {R = R} es) q
get_sorted es q sorted = sym (finmap.get-from_sorted R es q (holds _ sorted))

pub sorted_put : (es : List Entry) (name bytes : List ℕ) → entries.is_sorted R es ≡ true → entries.is_sorted R (entries.put R name bytes es) ≡ true
sorted_put es name bytes sorted = shown _ (entries.is_sorted-put R nat_list_cmp_total name bytes es (holds _ sorted))

pub insert_sorted : (es : List Entry) (name bytes : List ℕ) → entries.is_sorted R es ≡ true
    → finmap.from_sorted {R = R} (entries.put R name bytes es) ≡ finmap.insert (finmap.from_sorted es) name bytes
insert_sorted es name bytes sorted = finmap.same_entries_map _ _
    (finmap.entries-from_sorted R (entries.put R name bytes es) (holds _ (sorted_put es name bytes sorted))
    ∙ ap (entries.put R name bytes) (sym (finmap.entries-from_sorted R es (holds _ sorted)))
    ∙ sym (finmap.entries-insert nat_list_cmp_total (finmap.from_sorted es) name bytes))

pub listing_sorted : (dir : List ℕ) (es : List Entry) → entries.is_sorted R es ≡ true → segments_in dir es ≡ listing dir (finmap.from_sorted es)
listing_sorted dir es sorted = ap (segments_in dir) (sym (finmap.entries-from_sorted R es (holds _ sorted)))

pub get_inserted : (m : Objects) (name bytes : List ℕ) → finmap.get (finmap.insert m name bytes) name ≡ Some bytes
get_inserted m name bytes = finmap.get-insert nat_list_cmp_total m name bytes name
    ∙ ap (λ o. cond (is_eq o) (Some bytes) (finmap.get m name)) (tied_itself nat_list_cmp_total name)

grows_case : (m : Objects) (name bytes q b : List ℕ) (o : Ordering) → R q name ≡ o → finmap.get m name ≡ None → finmap.get m q ≡ Some b → cond (is_eq o) (Some bytes) (finmap.get m q) ≡ Some b
grows_case m name bytes q b Less e none is = is
grows_case m name bytes q b Equal e none is = absurd (some_none b (sym is ∙ sym (finmap.get_tied nat_list_cmp_total m q name e) ∙ none))
grows_case m name bytes q b Greater e none is = is

-- an object of a new name changes no other
pub grows_insert : (m : Objects) (name bytes : List ℕ) → finmap.get m name ≡ None → GrowsTo m (finmap.insert m name bytes)
grows_insert m name bytes none = λ q b is. finmap.get-insert nat_list_cmp_total m name bytes q ∙ grows_case m name bytes q b (R q name) refl none is

-- objects after one of a new name, where there was room
pub grows_add : (b : Bool) (m n : Shelved) (name bytes : List ℕ) → finmap.get m.0 name ≡ None → n ≡ (if b then with_one m name bytes else m) → GrowsTo m.0 n.0
grows_add true m n name bytes none e = λ q x is. ap (λ o. finmap.get o.0 q) e ∙ grows_insert m.0 name bytes none q x is
grows_add false m n name bytes none e = λ q x is. ap (λ o. finmap.get o.0 q) e ∙ is
