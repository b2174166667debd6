-- What callers know of objects from call to call, where others may add some.
use Rattle.std.proofs.Common.{◌≡◌, ℕ, List, ◌∷◌, ◌++◌, sym, ◌∙◌, ap, refl, subst, Bool, true, false, Option, Some, None, IfSome, is_some, bytes_eq, true≢false}
use Rattle.std.specs.Bool.{OnTrue}
use Rattle.std.specs.List.{list_any}
use Rattle.std.specs.FinMap as finmap
use Rattle.std.proofs.lemmas.Cmp.{nat_list_cmp_total}
use Rattle.edge_core.specs.Names.{has_slash}
use Rattle.edge_core.specs.Objects.{Objects, GrowsTo, Grows, Between, Looks, listing}
use Rattle.edge_core.proofs.Basics.{some_none}
use Rattle.edge_core.proofs.Listings.{listing_has, listing_free}

pub GrowsTo-itself : (m : Objects) → GrowsTo m m
GrowsTo-itself m = λ name bytes is. is

pub GrowsTo-on : (old mid new : Objects) → GrowsTo old mid → GrowsTo mid new → GrowsTo old new
GrowsTo-on old mid new first later = λ name bytes is. later name bytes (first name bytes is)

same_option : {A : Type 0} (r s : Option A) → ((b : A) → r ≡ Some b → s ≡ Some b) → ((b : A) → s ≡ Some b → r ≡ Some b) → r ≡ s
same_option None None there back = refl
same_option None (Some y) there back = back y refl
same_option (Some x) s there back = sym (there x refl)

-- objects that grew to each other are the same
pub GrowsTo-same : (a b : Objects) → GrowsTo a b → GrowsTo b a → a ≡ b
GrowsTo-same a b there back = finmap.same_map nat_list_cmp_total (finmap.slice_cmp-IsAntisymmetric finmap.nat_cmp-IsAntisymmetric) a b
    (λ name. same_option (finmap.get a name) (finmap.get b name) (there name) (back name))

absent_case : {A : Type 0} (r s : Option A) → ((b : A) → r ≡ Some b → s ≡ Some b) → s ≡ None → r ≡ None
absent_case None s grows none = refl
absent_case (Some b) s grows none = absurd (some_none b (sym (grows b refl) ∙ none))

-- what is absent later was absent before
pub GrowsTo-absent : (old new : Objects) (name : List ℕ) → GrowsTo old new → finmap.get new name ≡ None → finmap.get old name ≡ None
GrowsTo-absent old new name grows none = absent_case (finmap.get old name) (finmap.get new name) (grows name) none

pub Grows-itself : (o : Option Objects) → Grows o o
Grows-itself None = refl
Grows-itself (Some m) = GrowsTo-itself m

pub Grows-on : (old mid new : Option Objects) → Grows old mid → Grows mid new → Grows old new
Grows-on None None new first later = later
Grows-on None (Some m) new first later = absurd (some_none m first)
Grows-on (Some m) None new first later = absurd (true≢false first)
Grows-on (Some m) (Some n) None first later = absurd (true≢false later)
Grows-on (Some m) (Some n) (Some k) first later = GrowsTo-on m n k first later

-- an object that is there stays, with its bytes
pub Grows-stays : (old new : Option Objects) (name bytes : List ℕ) → Grows old new → IfSome old (λ os. finmap.get os name ≡ Some bytes) → IfSome new (λ os. finmap.get os name ≡ Some bytes)
Grows-stays old None name bytes grows is = tt
Grows-stays None (Some n) name bytes grows is = absurd (some_none n grows)
Grows-stays (Some m) (Some n) name bytes grows is = grows name bytes is

-- what is absent later was absent before
pub Grows-absent : (old new : Option Objects) (name : List ℕ) → Grows old new → IfSome new (λ os. finmap.get os name ≡ None) → IfSome old (λ os. finmap.get os name ≡ None)
Grows-absent None new name grows none = tt
Grows-absent (Some m) None name grows none = absurd (true≢false grows)
Grows-absent (Some m) (Some n) name grows none = GrowsTo-absent m n name grows none

-- objects that grew to each other are the same
pub Grows-same : (a b : Option Objects) → Grows a b → Grows b a → a ≡ b
Grows-same None b there back = sym there
Grows-same (Some m) None there back = absurd (true≢false there)
Grows-same (Some m) (Some n) there back = ap (λ o. Some o) (GrowsTo-same m n there back)

-- what was the same grew
pub Grows-equal : (old new : Option Objects) → new ≡ old → Grows old new
Grows-equal old new e = subst (λ o. Grows old o) (sym e) (Grows-itself old)

-- two looks, one after the other
pub Looks-on : (alone later : Bool) (old mid new : Option Objects) → Looks old mid alone → OnTrue alone (later ≡ true) → Looks mid new later → Looks old new alone
Looks-on false later old mid new first stays second = record { grows = Grows-on old mid new first.grows second.grows; same = tt }
Looks-on true later old mid new first stays second = record {
  grows = Grows-on old mid new first.grows second.grows;
  same = subst (λ b. OnTrue b (new ≡ mid)) stays second.same ∙ first.same;
}

-- a moment of a call is a moment of a longer one
pub Between-on : (old before after new : Option Objects) (P : Objects → Type 0) → Grows old before → Between before after P → Grows after new → Between old new P
Between-on old before after new P first moment last =
    (moment.0, Grows-on old before moment.0 first moment.1, Grows-on moment.0 after new moment.2 last, moment.3)

-- what holds at the end holds at one moment
pub Between-end : (old new : Option Objects) (P : Objects → Type 0) → Grows old new → IfSome new P → Between old new P
Between-end old new P grows holds = (new, grows, Grows-itself new, holds)

-- what holds at the beginning holds at one moment
pub Between-start : (old new : Option Objects) (P : Objects → Type 0) → Grows old new → IfSome old P → Between old new P
Between-start old new P grows holds = (old, Grows-itself old, grows, holds)

there_case : {A : Type 0} (r s : Option A) → ((b : A) → r ≡ Some b → s ≡ Some b) → is_some r ≡ true → is_some s ≡ true
there_case None s grows there = absurd (true≢false (sym there))
there_case (Some b) s grows there = ap is_some (grows b refl)

listed_case : (dir s : List ℕ) (old new : Objects) (b : Bool) → has_slash s ≡ b → GrowsTo old new → list_any (bytes_eq s) (listing dir old) ≡ true → list_any (bytes_eq s) (listing dir new) ≡ true
listed_case dir s old new true slash grows there = absurd (true≢false (sym there ∙ listing_free dir s old slash))
listed_case dir s old new false slash grows there = listing_has dir s new slash
    ∙ there_case (finmap.get old (dir ++ 47 ∷ s)) (finmap.get new (dir ++ 47 ∷ s)) (grows (dir ++ 47 ∷ s)) (sym (listing_has dir s old slash) ∙ there)

-- a segment that is listed stays listed
pub listing-GrowsTo : (dir s : List ℕ) (old new : Objects) → GrowsTo old new → list_any (bytes_eq s) (listing dir old) ≡ true → list_any (bytes_eq s) (listing dir new) ≡ true
listing-GrowsTo dir s old new grows there = listed_case dir s old new (has_slash s) refl grows there
