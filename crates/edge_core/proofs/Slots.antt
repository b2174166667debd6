-- Objects that lie in one text.
use Rattle.std.proofs.Common.{◌≡◌, ℕ, zero, suc, ◌+◌, ◌-◌, ◌<◌, ◌≤◌, List, [], ◌∷◌, ◌++◌, take, drop, length, sym, ◌∙◌, ap, refl, Bool, true, None, nat_le, arith}
use Rattle.std.specs.FinMap as finmap
use Rattle.std.specs.FinMap.Entries as entries
use Rattle.std.specs.List.{insert, list_all}
use Rattle.std.proofs.Math.Seq.{take-append_seam, drop-append_seam, drop-append-add}
use Rattle.std.proofs.lemmas.List.{map-append, take-map, drop-map, take-append-le, drop-append-le, take_all, length-drop, length-append}
use Rattle.std.proofs.lemmas.Str.{is_utf8-from_IsUtf8}
use Rattle.std.specs.Str.{IsUtf8}
use Rattle.edge_core.specs.Names.{is_name}
use Rattle.edge_core.specs.Objects.{Objects}
use Rattle.edge_core.specs.Stored.{is_named, entry, stored_objects, within, rank}
use Rattle.edge_core.specs.declared.shelf.Slot.{Slot}
use Rattle.edge_core.proofs.Basics.{each, nat_le_true}
use Rattle.edge_core.proofs.Shelves.{R, put_at, get_sorted, sorted_put, insert_sorted}

-- a part that lies in a text is the same in a longer one
part_stays : (text more : List ℕ) (at n : ℕ) → at + n ≤ length text → take n (drop at (text ++ more)) ≡ take n (drop at text)
part_stays text more at n le =
    ap (take n) (drop-append-le at text more (omega arith))
    ∙ take-append-le n (drop at text) more (let e = length-drop at text in omega arith)

entry_stays : (text more : List ℕ) (s : Slot) → within (length text) s ≡ true → entry text s ≡ entry (text ++ more) s
entry_stays text more s fits =
    let p = each (nat_le (s.at + s.name) (length text)) (nat_le (s.from + s.size) (length text)) fits in
    let first : s.at + s.name ≤ length text = search (arith, p) in
    let second : s.from + s.size ≤ length text = search (arith, p) in
    rw (part_stays text more s.at s.name first, part_stays text more s.from s.size second) refl

pub objects_stay : (text more : List ℕ) (slots : List Slot) → list_all (within (length text)) slots ≡ true → stored_objects text slots ≡ stored_objects (text ++ more) slots
objects_stay text more [] fits = refl
objects_stay text more (s ∷ slots) fits =
    let p = each (within (length text) s) (list_all (within (length text)) slots) fits in
    rw (entry_stays text more s p.0, objects_stay text more slots p.1) refl

within_more : (s : Slot) (n k : ℕ) → n ≤ k → within n s ≡ true → within k s ≡ true
within_more s n k le fits =
    let p = each (nat_le (s.at + s.name) n) (nat_le (s.from + s.size) n) fits in
    let first : s.at + s.name ≤ n = search (arith, p) in
    let second : s.from + s.size ≤ n = search (arith, p) in
    rw (nat_le_true (s.at + s.name) k (omega arith), nat_le_true (s.from + s.size) k (omega arith)) refl

all_within : (n k : ℕ) (slots : List Slot) → n ≤ k → list_all (within n) slots ≡ true → list_all (within k) slots ≡ true
all_within n k [] le fits = refl
all_within n k (s ∷ slots) le fits =
    let p = each (within n s) (list_all (within n) slots) fits in
    rw (within_more s n k le p.0, all_within n k slots le p.1) refl

inserted : {A : Type 0} (p : A → Bool) (i : ℕ) (slots : List A) (s : A) → p s ≡ true → list_all p slots ≡ true → list_all p (insert slots i s) ≡ true
inserted p zero slots s here rest = rw (here, rest) refl
inserted p (suc i) [] s here rest = rw here refl
inserted p (suc i) (t ∷ slots) s here rest =
    let q = each (p t) (list_all p slots) rest in
    rw (q.0, inserted p i slots s here q.1) refl

stored_insert : (text : List ℕ) (slots : List Slot) (i : ℕ) (s : Slot) → stored_objects text (insert slots i s) ≡ insert (stored_objects text slots) i (entry text s)
stored_insert text slots i s = map-append _ (take i slots) (s ∷ drop i slots)
    ∙ ap (λ f. f ++ entry text s ∷ stored_objects text (drop i slots)) (sym (take-map _ i slots))
    ∙ ap (λ r. take i (stored_objects text slots) ++ entry text s ∷ r) (sym (drop-map _ i slots))

-- the new slot says the name and the bytes
new_entry : (text name bytes : List ℕ) (s : Slot) → s.at ≡ length text → s.name ≡ length name → s.from ≡ length text + length name → s.size ≡ length bytes
    → entry (text ++ (name ++ bytes)) s ≡ (name, bytes)
new_entry text name bytes s at n from size =
    let first : take s.name (drop s.at (text ++ (name ++ bytes))) ≡ name = rw (at, n, drop-append_seam text (name ++ bytes)) (take-append_seam name bytes) in
    let second : take s.size (drop s.from (text ++ (name ++ bytes))) ≡ bytes
    = rw (from, size, drop-append-add text (name ++ bytes) (length name), drop-append_seam name bytes) (take_all (length bytes) bytes (omega arith)) in
    rw (first, second) refl

new_within : (text name bytes : List ℕ) (s : Slot) → s.at ≡ length text → s.name ≡ length name → s.from ≡ length text + length name → s.size ≡ length bytes
    → within (length (text ++ (name ++ bytes))) s ≡ true
new_within text name bytes s at n from size =
    let whole : length (text ++ (name ++ bytes)) ≡ length text + (length name + length bytes) = length-append text (name ++ bytes) ∙ ap (λ k. length text + k) (length-append name bytes) in
    rw (nat_le_true (s.at + s.name) (length (text ++ (name ++ bytes))) (omega arith), nat_le_true (s.from + s.size) (length (text ++ (name ++ bytes))) (omega arith)) refl

-- a text that is a name is one
pub named_text : (name bytes : List ℕ) → IsUtf8 name → is_name name ≡ true → is_named (name, bytes) ≡ true
named_text name bytes text good = rw (is_utf8-from_IsUtf8 name text, good) refl

-- the objects after one of a new name was put at its place
pub add_gives : (text name bytes : List ℕ) (slots : List Slot) (s : Slot) (place : ℕ) (old : Objects)
    → entries.is_sorted R (stored_objects text slots) ≡ true → list_all is_named (stored_objects text slots) ≡ true → list_all (within (length text)) slots ≡ true
    → finmap.from_sorted (stored_objects text slots) ≡ old → finmap.get old name ≡ None
    → is_named (name, bytes) ≡ true → place ≡ rank name (stored_objects text slots)
    → s.at ≡ length text → s.name ≡ length name → s.from ≡ length text + length name → s.size ≡ length bytes
    → (entries.is_sorted R (stored_objects (text ++ (name ++ bytes)) (insert slots place s)) ≡ true)
    × ((list_all is_named (stored_objects (text ++ (name ++ bytes)) (insert slots place s)) ≡ true)
    × ((list_all (within (length (text ++ (name ++ bytes)))) (insert slots place s) ≡ true)
    × (finmap.from_sorted (stored_objects (text ++ (name ++ bytes)) (insert slots place s)) ≡ finmap.insert old name bytes)))
add_gives text name bytes slots s place old sorted names fits is none good at a n f z =
    let here : entries.find R name (stored_objects text slots) ≡ None = get_sorted (stored_objects text slots) name sorted ∙ ap (λ m. finmap.get m name) is ∙ none in
    let placed : stored_objects (text ++ (name ++ bytes)) (insert slots place s) ≡ insert (stored_objects text slots) place (name, bytes)
    = stored_insert (text ++ (name ++ bytes)) slots place s
    ∙ ap (λ e. insert (stored_objects (text ++ (name ++ bytes)) slots) place e) (new_entry text name bytes s a n f z)
    ∙ ap (λ es. insert es place (name, bytes)) (sym (objects_stay text (name ++ bytes) slots fits)) in
    let same : stored_objects (text ++ (name ++ bytes)) (insert slots place s) ≡ entries.put R name bytes (stored_objects text slots)
    = placed ∙ ap (λ i. insert (stored_objects text slots) i (name, bytes)) at ∙ sym (put_at (stored_objects text slots) name bytes here) in (
      ap (entries.is_sorted R) same ∙ sorted_put (stored_objects text slots) name bytes sorted,
      (
        ap (list_all is_named) placed ∙ inserted is_named place (stored_objects text slots) (name, bytes) good names,
        (
          inserted (within (length (text ++ (name ++ bytes)))) place slots s (new_within text name bytes s a n f z)
              (all_within (length text) (length (text ++ (name ++ bytes))) slots (let e = length-append text (name ++ bytes) in omega arith) fits),
          ap (λ es. finmap.from_sorted es) same ∙ insert_sorted (stored_objects text slots) name bytes sorted ∙ ap (λ m. finmap.insert m name bytes) is,
        ),
      ),
    )

-- the room that is left
pub objects_left : (objects slots after cap cap-after : ℕ) → 0 < objects → objects + slots ≤ cap → after ≡ slots + 1 → cap ≤ cap-after → objects - 1 + after ≤ cap-after
objects_left objects slots after cap cap-after some le e more = omega arith

pub bytes_left : (bytes name size text after cap cap-after : ℕ) → name + size ≤ bytes → bytes + text ≤ cap → after ≡ name + size + text → cap ≤ cap-after → bytes - (name + size) + after ≤ cap-after
bytes_left bytes name size text after cap cap-after fits le e more = omega arith
