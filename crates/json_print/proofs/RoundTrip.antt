-- The compact text of plain data reads as the data.
use Rattle.std.proofs.Common.{◌≡◌, ℕ, suc, ◌≤◌, max, pos, negsuc, List, [], Some, option_map, option_and_then, refl, sym, ap, ap₂, ◌∙◌, subst, append-nil}
use Rattle.std.specs.Prelude.{⊤}
use Rattle.std.specs.Ordering.{nat_cmp}
use Rattle.std.specs.declared.cmp.Ordering.TheVariants.{Greater}
use Rattle.std.specs.Cmp.Lexicographic.{slice_cmp}
use Rattle.json.specs.Lex.{tokens}
use Rattle.json.specs.Json as json
use Rattle.json.specs.Tree as tree
use Rattle.json.specs.Tree.{json_tokens, HasNumbers, ItemsHaveNumbers, MembersHaveNumbers}
use Rattle.json.proofs.Printed.Tokens.{tokens-print}
use Rattle.json.proofs.Printed.Trees.{value-json_tokens, ArePrintable-json_tokens}
use Rattle.json.proofs.Printed.Decimals.{IsNumber-decimal, IsNumber-signed_decimal}
use Rattle.serde_json.specs.Data.{Num, unsigned, negative, float, Data, null, boolean, number, string, array, object, Items, no_items, item, Members, no_members, member, put, depth, items_depth, members_depth}
use Rattle.serde_json.specs.Read.{number_of, of_json, of_items, of_members, read, max_depth}
use Rattle.serde_json.specs.Written.{number_text, outline, items_outline, members_outline, compact_text}
use Rattle.serde_json.proofs.Numbers.{number_of-decimal, number_of-negative}
use Rattle.serde_json.proofs.Texts.{print-outline}
use Rattle.json_print.specs.Plain.{IsWhole, AreAbove, IsPlain, ItemsArePlain, MembersArePlain}

-- ---- numbers

number_back : (n : Num) → IsWhole n → number_of (number_text n) ≡ Some n
number_back (unsigned n) h = number_of-decimal n h
number_back (negative (pos n)) h = absurd h
number_back (negative (negsuc n)) h = number_of-negative n h
number_back (float x) h = absurd h

number_is : (n : Num) → IsWhole n → HasNumbers (json.number (number_text n))
number_is (unsigned n) h = IsNumber-decimal n h
number_is (negative (pos n)) h = absurd h
number_is (negative (negsuc n)) h = IsNumber-signed_decimal (negsuc n) h
number_is (float x) h = absurd h

-- ---- members that go in in order

abbrev joined : Members → Members → Members
joined no_members ms = ms
joined (member l e found) ms = member l e (joined found ms)

-- each name in found is below k
abbrev AreBelow : List ℕ → Members → Type 0
AreBelow k no_members = ⊤
AreBelow k (member l e ms) = (slice_cmp nat_cmp k l ≡ Greater) × AreBelow k ms

-- the names of found are below those of ms
abbrev Fits : Members → Members → Type 0
Fits found no_members = ⊤
Fits found (member k d ms) = AreBelow k found × Fits found ms

abbrev last : Members → List ℕ → Data → Members
last found k d = joined found (member k d no_members)

joined-nil : (found : Members) → joined found no_members ≡ found
joined-nil no_members = refl
joined-nil (member l e found) = ap (member l e) (joined-nil found)

joined-last : (found : Members) (k : List ℕ) (d : Data) (ms : Members) → joined (last found k d) ms ≡ joined found (member k d ms)
joined-last no_members k d ms = refl
joined-last (member l e found) k d ms = ap (member l e) (joined-last found k d ms)

put_last : (found : Members) (k : List ℕ) (d : Data) → AreBelow k found → put k d found ≡ last found k d
put_last no_members k d h = refl
put_last (member l e found) k d h = rw h.0 (ap (member l e) (put_last found k d h.1))

below_last : (q k : List ℕ) (d : Data) (found : Members) → AreBelow q found → slice_cmp nat_cmp q k ≡ Greater → AreBelow q (last found k d)
below_last q k d no_members h g = (g, tt)
below_last q k d (member l e found) h g = (h.0, below_last q k d found h.1 g)

fits_last : (found : Members) (k : List ℕ) (d : Data) (ms : Members) → Fits found ms → AreAbove k ms → Fits (last found k d) ms
fits_last found k d no_members f a = tt
fits_last found k d (member l e ms) f a = (below_last l k d found f.0 a.0, fits_last found k d ms f.1 a.1)

fits_none : (ms : Members) → Fits no_members ms
fits_none no_members = tt
fits_none (member k d ms) = (tt, fits_none ms)

-- ---- the whole

mutual
  back : (d : Data) → IsPlain d → of_json (outline d) ≡ Some d
  back null p = refl
  back (boolean b) p = refl
  back (number n) p = ap (option_map number) (number_back n p)
  back (string s) p = refl
  back (array ds) p = ap (option_map array) (items_back ds p)
  back (object ms) p = ap (option_map object) (members_back ms no_members p (fits_none ms))

  items_back : (ds : Items) → ItemsArePlain ds → of_items (items_outline ds) ≡ Some ds
  items_back no_items p = refl
  items_back (item d ds) p = rw (back d p.0) (ap (option_map (item d)) (items_back ds p.1))

  members_back : (ms found : Members) → MembersArePlain ms → Fits found ms → of_members (members_outline ms) found ≡ Some (joined found ms)
  members_back no_members found p f = ap Some (sym (joined-nil found))
  members_back (member k d ms) found p f =
      ap (option_and_then (λ e. of_members (members_outline ms) (put k e found))) (back d p.0)
      ∙ ap (of_members (members_outline ms)) (put_last found k d f.0)
      ∙ members_back ms (last found k d) p.1.0 (fits_last found k d ms f.1 p.1.1)
      ∙ ap Some (joined-last found k d ms)

mutual
  numbers : (d : Data) → IsPlain d → HasNumbers (outline d)
  numbers null p = tt
  numbers (boolean b) p = tt
  numbers (number n) p = number_is n p
  numbers (string s) p = tt
  numbers (array ds) p = items_numbers ds p
  numbers (object ms) p = members_numbers ms p

  items_numbers : (ds : Items) → ItemsArePlain ds → ItemsHaveNumbers (items_outline ds)
  items_numbers no_items p = tt
  items_numbers (item d ds) p = (numbers d p.0, items_numbers ds p.1)

  members_numbers : (ms : Members) → MembersArePlain ms → MembersHaveNumbers (members_outline ms)
  members_numbers no_members p = tt
  members_numbers (member k d ms) p = (numbers d p.0, members_numbers ms p.1.0)

mutual
  same_depth : (d : Data) → tree.depth (outline d) ≡ depth d
  same_depth null = refl
  same_depth (boolean b) = refl
  same_depth (number n) = refl
  same_depth (string s) = refl
  same_depth (array ds) = ap suc (same_items_depth ds)
  same_depth (object ms) = ap suc (same_members_depth ms)

  same_items_depth : (ds : Items) → tree.items_depth (items_outline ds) ≡ items_depth ds
  same_items_depth no_items = refl
  same_items_depth (item d ds) = ap₂ max (same_depth d) (same_items_depth ds)

  same_members_depth : (ms : Members) → tree.members_depth (members_outline ms) ≡ members_depth ms
  same_members_depth no_members = refl
  same_members_depth (member k d ms) = ap₂ max (same_depth d) (same_members_depth ms)

pub read-compact_text : (d : Data) → IsPlain d → depth d ≤ max_depth → read (compact_text d) ≡ Some d
read-compact_text d p shallow =
    let text : tokens (compact_text d) ≡ json_tokens (outline d) =
    ap tokens (sym (print-outline d)) ∙ tokens-print (json_tokens (outline d)) (ArePrintable-json_tokens (outline d) (numbers d p)) in
    let h : tree.depth (outline d) ≤ max_depth = subst (λ n. n ≤ max_depth) (sym (same_depth d)) shallow in
    ap (λ ts. option_and_then of_json (option_and_then (λ p. json.if_last p.0 p.1) (json.value max_depth ts))) (text ∙ sym (append-nil (json_tokens (outline d))))
    ∙ ap (λ r. option_and_then of_json (option_and_then (λ p. json.if_last p.0 p.1) r)) (value-json_tokens (outline d) max_depth [] h)
    ∙ back d p
