-- Steps of keeping the commits of versions.
use Rattle.std.proofs.Common.{◌≡◌, ℕ, suc, zero, ◌+◌, ◌<◌, List, [], ◌∷◌, ◌++◌, length, max, Option, Some, None, option_map, Result, Ok, Err, refl, sym, ap, ◌∙◌, subst, arith, add-one, true≢false}
use Rattle.std.specs.Prelude.{IfSome, filter_map, option_and_then}
use Rattle.std.specs.List.{range_with_len, cons_option}
use Rattle.std.specs.Option.{option_map_or}
use Rattle.std.specs.Result.{result_ok}
use Rattle.std.proofs.lemmas.Option.{same_Some}
use borrow.Author.Count.{below_more}
use Rattle.edge_core.specs.Objects.{Objects, Grows}
use Rattle.log_actions.specs.declared.actions.Action.{Action}
use Rattle.log_commit.specs.Names.{commit_name}
use Rattle.log_commit.specs.Texts.{commit_in}
use Rattle.log_replay.proofs.RefusalLemmas.{first_at, none_at, shift}
use Rattle.log_actions.specs.CommitTexts.{printed_bytes}
use Rattle.log_store.specs.Log.{block_below, cause_at, commit_at, commits_below, log_below, text_at}
use Rattle.log_store.specs.Reading.{Adds, AreStored, Keeps, cause_found, loaded_of}
use Rattle.log_store.specs.declared.loaded.Block.{Block}
use Rattle.log_store.specs.declared.loaded.BlockCause.{BlockCause}
use Rattle.log_store.specs.declared.loaded.Loaded.{Loaded}
use Rattle.log_store.specs.declared.refusal.Stop.{Stop}
use Rattle.log_store.specs.declared.refusal.Stop.TheVariants as stop

-- the commits of the versions below one are kept
pub record IsReading (location : List ℕ) (os : Objects) (version : ℕ) (kept : List (List Action)) : Type 0 where
  pub commits : kept ≡ commits_below location os version
  pub none : (v : ℕ) → v < version → cause_at location os v ≡ None

-- one number more at the end
range_more : (a n : ℕ) → range_with_len a (suc n) ≡ range_with_len a n ++ (a + n) ∷ []
range_more a zero = let e : a ≡ a + 0 = omega arith in ap (λ v. v ∷ []) e
range_more a (suc n) = let e : a + 1 + n ≡ a + suc n = omega arith in ap (λ vs. a ∷ vs) (range_more (a + 1) n ∙ ap (λ v. range_with_len (a + 1) n ++ v ∷ []) e)

cons_append : {Y : Type 0} (o : Option Y) (xs ys : List Y) → cons_option o (xs ++ ys) ≡ cons_option o xs ++ ys
cons_append None xs ys = refl
cons_append (Some x) xs ys = refl

one_more : {X Y : Type 0} (f : X → Option Y) (xs : List X) (x : X) (y : Y) → f x ≡ Some y → filter_map f (xs ++ x ∷ []) ≡ filter_map f xs ++ y ∷ []
one_more f [] x y is = rw is refl
one_more f (z ∷ xs) x y is = ap (cons_option (f z)) (one_more f xs x y is) ∙ cons_append (f z) (filter_map f xs) (y ∷ [])

commits_more : (location : List ℕ) (os : Objects) (version : ℕ) (own : List Action) → commit_at location os version ≡ Some own → commits_below location os (version + 1) ≡ commits_below location os version ++ own ∷ []
commits_more location os version own is =
    rw (add-one version) (ap (filter_map (commit_at location os)) (range_more 0 version)
    ∙ one_more (commit_at location os) (range_with_len 0 version) (0 + version) own (subst (λ v. commit_at location os v ≡ Some own) (omega arith) is))

no_some : {X : Type 0} {x : X} → None ≡ Some x → ⊥
no_some e = cc

given_at : (found : Option (List ℕ)) (own : List Action) → option_map commit_in found ≡ Some (Ok own) → option_and_then (λ bytes. result_ok (commit_in bytes)) found ≡ Some own
given_at None own is = absurd (no_some is)
given_at (Some bytes) own is = ap result_ok (same_Some (commit_in bytes) (Ok own) is)

-- the cause of a version whose bytes are stored
cause_is : (location : List ℕ) (os : Objects) (version : ℕ) (kept : List (List Action)) (bytes : List ℕ) → kept ≡ commits_below location os version → text_at location os version ≡ Some bytes
    → cause_at location os version ≡ cause_found kept (text_at location os version)
cause_is location os version kept bytes is there = rw (there, is) refl

pub more_at : (location : List ℕ) (os : Objects) (version : ℕ) (kept next : List (List Action)) (own : List Action) (bytes : List ℕ) → text_at location os version ≡ Some bytes
    → IsReading location os version kept → Adds kept next (text_at location os version) own → IsReading location os (version + 1) next
more_at location os version kept next own bytes there so adds = record {
  commits = adds.after ∙ ap (λ cs. cs ++ own ∷ []) so.commits ∙ sym (commits_more location os version own (given_at (text_at location os version) own adds.read));
  none = below_more (λ v. cause_at location os v ≡ None) version so.none (cause_is location os version kept bytes so.commits there ∙ adds.kept);
}

-- what was kept of a stored version is what was stored at the start
pub keeps_then : (start new : Option Objects) (location : List ℕ) (version n : ℕ) (before after : List (List Action)) (r : Result (Unit {0}) Stop) → version < n → Grows start new → IfSome start (AreStored location n)
    → IfSome new (λ os. Keeps before after (text_at location os version) r) → IfSome start (λ os. Keeps before after (text_at location os version) r)
keeps_then None new location version n before after r lt grows stored keeps = tt
keeps_then (Some xs) None location version n before after r lt grows stored keeps = absurd (true≢false grows)
keeps_then (Some xs) (Some ys) location version n before after r lt grows stored keeps =
    let there = stored version lt in
    let same : text_at location ys version ≡ text_at location xs version = grows (commit_name location version) there.0 there.1 ∙ sym there.1 in
    subst (λ o. Keeps before after o r) same keeps

-- one version more
pub reading_more : (start : Option Objects) (location : List ℕ) (version n : ℕ) (before after : List (List Action)) (r : Result (Unit {0}) Stop) → version < n → IfSome start (AreStored location n) → r ≡ Ok tt
    → IfSome start (λ os. IsReading location os version before) → IfSome start (λ os. Keeps before after (text_at location os version) r) → IfSome start (λ os. IsReading location os (version + 1) after)
reading_more None location version n before after r lt stored is so keeps = tt
reading_more (Some os) location version n before after r lt stored is so keeps =
    let there = stored version lt in
    let k : Keeps before after (text_at location os version) (Ok tt) = subst (Keeps before after (text_at location os version)) is keeps in
    more_at location os version before after k.0 there.0 there.1 so k.1

abbrev pub block_of : ℕ → Option BlockCause → Option Block
block_of v o = option_map (λ c. record { version = v; cause = c }) o

-- a version that isn't kept, after versions that are, is the block
pub blocked_at : (location : List ℕ) (os : Objects) (version n : ℕ) (c : BlockCause) → version < n → ((v : ℕ) → v < version → cause_at location os v ≡ None) → cause_at location os version ≡ Some c
    → block_below location os n ≡ Some (record { version = version; cause = c })
blocked_at location os version n c lt none is =
    first_at (λ v. block_of v (cause_at location os v)) 0 n version (record { version = version; cause = c }) lt
    (λ v low. shift (λ v. block_of v (cause_at location os v)) v (0 + v) None (omega arith) (ap (block_of v) (none v low)))
    (shift (λ v. block_of v (cause_at location os v)) version (0 + version) (Some (record { version = version; cause = c })) (omega arith) (ap (block_of version) is))

log_at : (location : List ℕ) (os : Objects) (n version : ℕ) (kept : List (List Action)) (block : Option Block) → block_below location os n ≡ block → option_map_or (λ b. b.version) block n ≡ version
    → kept ≡ commits_below location os version → record { commits = kept; bytes = printed_bytes kept; block = block } ≡ log_below location os n
log_at location os n version kept block is at commits = rw (is, at, sym commits) refl

-- the log where a version isn't kept
pub reading_stops : (start : Option Objects) (location : List ℕ) (version n : ℕ) (before after : List (List Action)) (r : Result (Unit {0}) Stop) (c : BlockCause) (l : Loaded) → version < n → IfSome start (AreStored location n)
    → r ≡ Err (stop.Blocked c) → l ≡ record { commits = after; bytes = printed_bytes after; block = Some (record { version = version; cause = c }) }
    → IfSome start (λ os. IsReading location os version before) → IfSome start (λ os. Keeps before after (text_at location os version) r) → IfSome start (λ os. l ≡ log_below location os n)
reading_stops None location version n before after r c l lt stored is loaded so keeps = tt
reading_stops (Some os) location version n before after r c l lt stored is loaded so keeps =
    let there = stored version lt in
    let k : Keeps before after (text_at location os version) (Err (stop.Blocked c)) = subst (Keeps before after (text_at location os version)) is keeps in
    loaded ∙ log_at location os n version after (Some (record { version = version; cause = c })) (blocked_at location os version n c lt so.none (cause_is location os version before there.0 so.commits there.1 ∙ k.1)) refl (k.0 ∙ so.commits)

-- the log where all versions are kept
pub reading_done : (start : Option Objects) (location : List ℕ) (version n : ℕ) (before kept : List (List Action)) → version ≡ max (length before) n → IfSome start (λ os. before ≡ [])
    → IfSome start (λ os. IsReading location os version kept) → IfSome start (λ os. loaded_of kept None ≡ log_below location os n)
reading_done None location version n before kept e none so = tt
reading_done (Some os) location version n before kept e none so =
    let zero : length before ≡ 0 = ap length none in
    let at : version ≡ n = omega (arith, e, zero) in
    log_at location os n version kept None (none_at (λ v. block_of v (cause_at location os v)) 0 n (λ v low. shift (λ v. block_of v (cause_at location os v)) v (0 + v) None (omega arith) (ap (block_of v) (so.none v (omega (arith, low, at))))))
    (sym at) so.commits
