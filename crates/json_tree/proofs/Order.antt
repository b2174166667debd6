-- Pairs in byte order of their names.
use Rattle.std.proofs.Common.{◌≡◌, ℕ, List, [], ◌∷◌, Option, Some, None, map, option_map, option_and_then, string_bytes, refl, sym, ap, ◌∙◌, String, subst, get_or, length, ◌<◌, ◌≤◌, ◌+◌, ◌-◌, arith}
use Rattle.std.specs.declared.alloc.Global.{Global}
use Rattle.std.specs.Ordering.{nat_cmp}
use Rattle.std.specs.declared.cmp.Ordering.TheVariants.{Less}
use Rattle.std.specs.Cmp.Lexicographic.{slice_cmp, nat_list_cmp_total}
use Rattle.std.specs.List.Sorted.{IsStrictlySortedBy}
use Rattle.std.specs.List.{AllByRecursion, AllAdjacentBelow}
use Rattle.std.proofs.lemmas.List.{get_or-map, length-map}
use Rattle.std.proofs.lemmas.Map.Keys.{sorted_from_all_adjacent, Less-from_sorted}
use Rattle.std.specs.Map.{keys_of}
use Rattle.std.specs.String.{string_cmp}
use Rattle.serde_json.specs.View.{members_view, view}
use Rattle.serde_json.proofs.Views.{Entry}
use Rattle.json_tree.specs.declared.pairs.Pair.{Pair}
use Rattle.json_tree.specs.Fields.{pairs_of, text_or_null}
use Rattle.json_tree.specs.Lists.{pair_of}
use Rattle.json_tree.specs.Pairs.{names, IsPairs}

abbrev Named : Type 0
Named = List ℕ × Option (List ℕ)

names_step : (o : Option (Option (List ℕ))) (k : List ℕ) (r : Option (List Named)) (ps : List Named) (ns : List (List ℕ))
    → ((qs : List Named) → r ≡ Some qs → names qs ≡ ns)
    → option_and_then (λ p. option_map (λ rest. p ∷ rest) r) (option_map (λ v. (k, v)) o) ≡ Some ps → names ps ≡ k ∷ ns
names_step None k r ps ns h e = cc
names_step (Some v) k None ps ns h e = cc
names_step (Some v) k (Some qs) ps ns h e =
    let q : (k, v) ∷ qs ≡ ps = cc in
    ap names (sym q) ∙ ap (λ t. k ∷ t) (h qs refl)

names-members : (es : List Entry) (ps : List Named) → pairs_of (members_view es) ≡ Some ps
    → names ps ≡ map string_bytes (keys_of es)
names-members [] ps e = let q : [] ≡ ps = cc in ap names (sym q)
names-members (x ∷ es) ps e =
    names_step (text_or_null (view x.1)) (string_bytes x.0) (pairs_of (members_view es)) ps _ (λ qs h. names-members es qs h) e

lessers : (k : String Global) (ks : List (String Global)) → AllByRecursion (λ y. string_cmp k y ≡ Less) ks
    → AllByRecursion (λ y. slice_cmp nat_cmp (string_bytes k) y ≡ Less) (map string_bytes ks)
lessers k [] h = tt
lessers k (l ∷ ks) h = (h.0, lessers k ks h.1)

ordered : (ks : List (String Global)) → IsStrictlySortedBy string_cmp ks
    → IsStrictlySortedBy (slice_cmp nat_cmp) (map string_bytes ks)
unfolding IsStrictlySortedBy
ordered [] h = tt
ordered (k ∷ ks) h = (lessers k ks h.0, ordered ks h.1)

-- the pairs of an object's members are in order, since the members are
pub IsPairs-members : (es : List Entry) (ps : List Named) → IsStrictlySortedBy string_cmp (keys_of es)
    → pairs_of (members_view es) ≡ Some ps → IsPairs ps
IsPairs-members es ps s e = subst (IsStrictlySortedBy (slice_cmp nat_cmp)) (sym (names-members es ps e)) (ordered (keys_of es) s)

abbrev pub Below : Pair → Pair → Type 0
Below p q = slice_cmp nat_cmp p.name q.name ≡ Less

nothing : Pair
nothing = record { name = []; value = None }

names-pairs : (ps : List Pair) → names (map pair_of ps) ≡ map (λ p. p.name) ps
names-pairs [] = refl
names-pairs (p ∷ ps) = ap (λ t. p.name ∷ t) (names-pairs ps)

named : (ps : List Pair) (i : ℕ) (d : Pair) → i < length ps → get_or (names (map pair_of ps)) i [] ≡ (get_or ps i d).name
named ps i d h = ap (λ ns. get_or ns i []) (names-pairs ps) ∙ get_or-map (λ p. p.name) ps i d [] h

length-names : (ps : List Pair) → length (names (map pair_of ps)) ≡ length ps
length-names ps = ap length (names-pairs ps) ∙ length-map ps (λ p. p.name)

pub IsPairs-from_adjacent : (ps : List Pair) (n : ℕ) → length ps ≤ n → AllAdjacentBelow Below ps n → IsPairs (map pair_of ps)
IsPairs-from_adjacent ps n h all = sorted_from_all_adjacent nat_list_cmp_total (names (map pair_of ps)) [] (λ k l.
    let m : k + 1 < length ps = subst (λ x. k + 1 < x) (length-names ps) l in
    rw (named ps k nothing (omega arith), named ps (k + 1) nothing m) (all k nothing (omega arith)))

pub adjacent_from_IsPairs : (ps : List Pair) (i : ℕ) (d e : Pair) → 0 < i → i < length ps → IsPairs (map pair_of ps)
    → Below (get_or ps (i - 1) d) (get_or ps i e)
adjacent_from_IsPairs ps i d e a b s =
    let m : i < length (names (map pair_of ps)) = subst (λ x. i < x) (sym (length-names ps)) b in
    let r = Less-from_sorted (slice_cmp nat_cmp) (names (map pair_of ps)) (i - 1) i [] s (omega arith) m in
    rw (sym (named ps (i - 1) d (omega arith)), sym (named ps i e b)) r

pub IsPairs-nil : IsPairs []
unfolding IsStrictlySortedBy
IsPairs-nil = tt
