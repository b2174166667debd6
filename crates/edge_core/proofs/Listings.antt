-- The listing of a folder is all the last segments in it, in byte order, each once.
use Rattle.std.proofs.Common.{◌≡◌, ℕ, List, [], ◌∷◌, ◌++◌, take, drop, length, map, sym, ◌∙◌, ap, refl, subst, Bool, true, false, cond, ◌||◌, T, Option, Some, None, option_and_then, is_lt, Less, Equal, Greater, nat_cmp, bytes_eq, true≢false}
use Rattle.std.specs.Ordering.{eq_by_cmp, ordering_then}
use Rattle.std.specs.declared.cmp.Ordering.{Ordering}
use Rattle.std.specs.Option.{unwrap_or}
use Rattle.std.specs.List.{list_any, AllByRecursion, cons_option}
use Rattle.std.specs.List.Sorted.{IsStrictlySortedBy}
use Rattle.std.specs.Cmp.Lexicographic.{slice_cmp}
use Rattle.std.specs.Cmp.{tied_itself, nat_cmp_total}
use Rattle.std.specs.FinMap as finmap
use Rattle.std.specs.FinMap.Entries as entries
use Rattle.std.proofs.lemmas.List.{take-append-drop}
use Rattle.std.proofs.lemmas.Slice.Eq.{bytes_eq-Decides}
use Rattle.std.proofs.lemmas.Map.Text.{is_eq-slice_cmp}
use Rattle.edge_core.specs.Names.{has_slash, is_name, is_one_segment}
use Rattle.edge_core.specs.Objects.{Objects, after_prefix, single, segment_in, segments_in, listing}
use Rattle.edge_core.proofs.Basics.{some_none, each}
use Rattle.edge_core.proofs.NameLaws.{one_segment}
use Rattle.edge_core.proofs.Prefixes.{has_prefix}

abbrev R : List ℕ → List ℕ → Ordering
R = slice_cmp nat_cmp

abbrev Entry : Type 0
Entry = List ℕ × List ℕ

same_some : {A : Type 0} (x y : A) → Some x ≡ Some y → x ≡ y
same_some x y e = ap (λ o. unwrap_or o x) e

cut : (p s r : List ℕ) (b : Bool) → bytes_eq p (take (length p) s) ≡ b → cond b (Some (drop (length p) s)) None ≡ Some r → s ≡ p ++ r
cut p s r false e is = absurd (some_none r (sym is))
cut p s r true e is =
    sym (take-append-drop (length p) s) ∙ ap (λ f. f ++ drop (length p) s) (sym ((bytes_eq-Decides p (take (length p) s)).0 e)) ∙ ap (λ t. p ++ t) (same_some _ _ is)

after_is : (p s r : List ℕ) → after_prefix p s ≡ Some r → s ≡ p ++ r
after_is p s r is = cut p s r (bytes_eq p (take (length p) s)) refl is

alone_is : (r s : List ℕ) (b : Bool) → has_slash r ≡ b → cond b None (Some r) ≡ Some s → (r ≡ s) × (has_slash s ≡ false)
alone_is r s true e is = absurd (some_none s (sym is))
alone_is r s false e is = let same = same_some r s is in (same, subst (λ t. has_slash t ≡ false) same e)

single_is : (o : Option (List ℕ)) (s : List ℕ) → option_and_then single o ≡ Some s → (o ≡ Some s) × (has_slash s ≡ false)
single_is None s is = absurd (some_none s (sym is))
single_is (Some r) s is = let p = alone_is r s (has_slash r) refl is in (ap (λ t. Some t) p.0, p.1)

slash_is : (o : Option (List ℕ)) (s : List ℕ) → option_and_then (after_prefix (47 ∷ [])) o ≡ Some s → o ≡ Some (47 ∷ s)
slash_is None s is = absurd (some_none s (sym is))
slash_is (Some r) s is = ap (λ t. Some t) (after_is (47 ∷ []) r s is)

-- a segment in a folder makes the name, and has no slash
pub segment_is : (dir name s : List ℕ) → segment_in dir name ≡ Some s → (name ≡ dir ++ 47 ∷ s) × (has_slash s ≡ false)
segment_is dir name s is =
    let p = single_is (option_and_then (after_prefix (47 ∷ [])) (after_prefix dir name)) s is in
    (after_is dir name (47 ∷ s) (slash_is (after_prefix dir name) s p.0), p.1)

-- a name made of a folder and a segment has that segment
pub segment_of : (dir s : List ℕ) → has_slash s ≡ false → segment_in dir (dir ++ 47 ∷ s) ≡ Some s
segment_of dir s free =
    ap (λ o. option_and_then single (option_and_then (after_prefix (47 ∷ [])) o)) (sym (has_prefix dir (47 ∷ s)))
    ∙ ap (λ o. option_and_then single o) (sym (has_prefix (47 ∷ []) s))
    ∙ ap (λ b. cond b None (Some s)) free

-- the segment of a name is a segment by itself
pub segment_of_name : (dir name s : List ℕ) → is_name name ≡ true → segment_in dir name ≡ Some s → is_one_segment s ≡ true
segment_of_name dir name s is found =
    let p = segment_is dir name s found in
    one_segment dir s (subst (λ n. is_name n ≡ true) p.0 is) p.1

same_test : (a b : Bool) → (a ≡ true → b ≡ true) → (b ≡ true → a ≡ true) → a ≡ b
same_test true b f g = sym (f refl)
same_test false true f g = g refl
same_test false false f g = refl

tie_is : (p q : List ℕ) → eq_by_cmp R p q ≡ true → p ≡ q
tie_is p q e = (bytes_eq-Decides p q).0 (sym (is_eq-slice_cmp p q) ∙ e)

is_tie : (p q : List ℕ) → p ≡ q → eq_by_cmp R p q ≡ true
is_tie p q e = is_eq-slice_cmp p q ∙ (bytes_eq-Decides p q).1 e

abbrev names : List Entry → List (List ℕ)
names es = map (λ e. e.0) es

-- one name of the map: whether its segment is s
abbrev gives : List ℕ → Option (List ℕ) → Bool
gives s None = false
gives s (Some t) = bytes_eq s t

gives_true : (s : List ℕ) (o : Option (List ℕ)) → gives s o ≡ true → o ≡ Some s
gives_true s None e = absurd (true≢false (sym e))
gives_true s (Some t) e = ap (λ x. Some x) (sym ((bytes_eq-Decides s t).0 e))

true_gives : (s : List ℕ) (o : Option (List ℕ)) → o ≡ Some s → gives s o ≡ true
true_gives s None e = absurd (some_none s (sym e))
true_gives s (Some t) e = (bytes_eq-Decides s t).1 (sym (same_some t s e))

gives_cons : (s : List ℕ) (o : Option (List ℕ)) (rest : List (List ℕ)) → list_any (bytes_eq s) (cons_option o rest) ≡ (gives s o || list_any (bytes_eq s) rest)
gives_cons s None rest = refl
gives_cons s (Some t) rest = refl

tests_name : (dir s name : List ℕ) → has_slash s ≡ false → gives s (segment_in dir name) ≡ eq_by_cmp R (dir ++ 47 ∷ s) name
tests_name dir s name free = same_test _ _
    (λ e. is_tie (dir ++ 47 ∷ s) name (sym (segment_is dir name s (gives_true s (segment_in dir name) e)).0))
    (λ e. true_gives s (segment_in dir name) (subst (λ n. segment_in dir n ≡ Some s) (tie_is (dir ++ 47 ∷ s) name e) (segment_of dir s free)))

listed_in : (dir s : List ℕ) (es : List Entry) → has_slash s ≡ false → list_any (bytes_eq s) (segments_in dir es) ≡ list_any (eq_by_cmp R (dir ++ 47 ∷ s)) (names es)
listed_in dir s [] free = refl
listed_in dir s (e ∷ es) free = gives_cons s (segment_in dir e.0) (segments_in dir es)
    ∙ ap (λ b. b || list_any (bytes_eq s) (segments_in dir es)) (tests_name dir s e.0 free)
    ∙ ap (λ r. eq_by_cmp R (dir ++ 47 ∷ s) e.0 || r) (listed_in dir s es free)

-- a segment is listed exactly where its name is in the map
pub listing_has : (dir s : List ℕ) (m : Objects) → has_slash s ≡ false → list_any (bytes_eq s) (listing dir m) ≡ finmap.contains_key m (dir ++ 47 ∷ s)
listing_has dir s m free = listed_in dir s (finmap.entries m) free ∙ sym (finmap.contains_key-keys m (dir ++ 47 ∷ s))

no_gift : (dir s name : List ℕ) (b : Bool) → gives s (segment_in dir name) ≡ b → has_slash s ≡ true → b ≡ false
no_gift dir s name false e slash = refl
no_gift dir s name true e slash = absurd (true≢false (sym slash ∙ (segment_is dir name s (gives_true s (segment_in dir name) e)).1))

never_in : (dir s : List ℕ) (es : List Entry) → has_slash s ≡ true → list_any (bytes_eq s) (segments_in dir es) ≡ false
never_in dir s [] slash = refl
never_in dir s (e ∷ es) slash = gives_cons s (segment_in dir e.0) (segments_in dir es)
    ∙ ap (λ b. b || list_any (bytes_eq s) (segments_in dir es)) (no_gift dir s e.0 (gives s (segment_in dir e.0)) refl slash)
    ∙ never_in dir s es slash

pub listing_free : (dir s : List ℕ) (m : Objects) → has_slash s ≡ true → list_any (bytes_eq s) (listing dir m) ≡ false
listing_free dir s m slash = never_in dir s (finmap.entries m) slash

cancel : (dir s t : List ℕ) → R (dir ++ s) (dir ++ t) ≡ R s t
cancel [] s t = refl
cancel (x ∷ dir) s t = ap (λ o. ordering_then o (R (dir ++ s) (dir ++ t))) (tied_itself nat_cmp_total x) ∙ cancel dir s t

less : (o : Ordering) → is_lt o ≡ true → o ≡ Less
less Less e = refl
less Equal e = absurd (true≢false (sym e))
less Greater e = absurd (true≢false (sym e))

above_one : (dir s name key : List ℕ) (o : Option (List ℕ)) (rest : List (List ℕ)) → name ≡ dir ++ 47 ∷ s → segment_in dir key ≡ o → is_lt (R name key) ≡ true
    → AllByRecursion (λ y. R s y ≡ Less) rest → AllByRecursion (λ y. R s y ≡ Less) (cons_option o rest)
above_one dir s name key None rest is e lt more = more
above_one dir s name key (Some t) rest is e lt more = (
  sym (cancel dir (47 ∷ s) (47 ∷ t) ∙ ap (λ o. ordering_then o (R s t)) (tied_itself nat_cmp_total 47))
      ∙ ap (λ n. R n (dir ++ 47 ∷ t)) (sym is) ∙ ap (λ k. R name k) (sym (segment_is dir key t e).0) ∙ less (R name key) lt,
  more,
)

above : (dir s name : List ℕ) (es : List Entry) → name ≡ dir ++ 47 ∷ s → entries.below_all R name es ≡ true → AllByRecursion (λ y. R s y ≡ Less) (segments_in dir es)
above dir s name [] is below = tt
above dir s name (e ∷ es) is below =
    let p = each (is_lt (R name e.0)) (entries.below_all R name es) below in
    above_one dir s name e.0 (segment_in dir e.0) (segments_in dir es) is refl p.0 (above dir s name es is p.1)

rising_one : (dir : List ℕ) (e : Entry) (es : List Entry) (o : Option (List ℕ)) → segment_in dir e.0 ≡ o → entries.below_all R e.0 es ≡ true
    → IsStrictlySortedBy R (segments_in dir es) → IsStrictlySortedBy R (cons_option o (segments_in dir es))
unfolding IsStrictlySortedBy
rising_one dir e es None is below more = more
rising_one dir e es (Some s) is below more = (above dir s e.0 es (segment_is dir e.0 s is).0 below, more)

rising : (dir : List ℕ) (es : List Entry) → entries.is_sorted R es ≡ true → IsStrictlySortedBy R (segments_in dir es)
unfolding IsStrictlySortedBy
rising dir [] sorted = tt
rising dir (e ∷ es) sorted =
    let p = each (entries.below_all R e.0 es) (entries.is_sorted R es) sorted in
    rising_one dir e es (segment_in dir e.0) refl p.0 (rising dir es p.1)

shown : (b : Bool) → T b → b ≡ true
shown true t = refl
shown false t = absurd t

-- the listing strictly rises
pub listing_rises : (dir : List ℕ) (m : Objects) → IsStrictlySortedBy R (listing dir m)
listing_rises dir m = rising dir (finmap.entries m) (shown _ (finmap.entries_sorted m))
