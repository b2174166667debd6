-- The log that was loaded of the versions in front, and what stands after them.
use Rattle.std.proofs.Common.{◌≡◌, ℕ, zero, suc, ◌+◌, ◌<◌, ◌≤◌, List, length, true, false, Option, Some, None, refl, sym, ap, ◌∙◌, subst, arith, nat_lt}
use Rattle.std.specs.Prelude.{IfSome, ◌^◌, filter_map, slice_get}
use Rattle.std.specs.List.{range_with_len, cons_option}
use Rattle.std.specs.Option.{option_map_or, option_or}
use Rattle.std.proofs.lemmas.Bool.Decides.{nat_tests}
use Rattle.edge_core.specs.Objects.{Objects, listing}
use Rattle.log_commit.specs.Names.{folder, version_of}
use Rattle.log_actions.specs.declared.actions.Action.{Action}
use Rattle.log_replay.proofs.NextLemmas.{none_each}
use Rattle.log_replay.proofs.RefusalLemmas.{shift}
use Rattle.log_actions.specs.CommitTexts.{printed_bytes}
use Rattle.log_store.specs.Log.{block_below, cause_at, commits_below, end_of, log_below, log_in, missing, text_at, versions_in}
use Rattle.log_store.specs.Reading.{AreStored, gap_at, leading_from, loaded_of}
use Rattle.log_store.specs.declared.loaded.Block.{Block}
use Rattle.log_store.specs.declared.loaded.BlockCause.{BlockCause}
use Rattle.log_store.specs.declared.loaded.Loaded.{Loaded}
use Rattle.log_store.proofs.Keeping.{block_of, blocked_at}
use Rattle.log_store.proofs.VersionLemmas.{all_leading, gap_there, leading_most, leading_stored}

none_some : {X : Type 0} {x : X} → None ≡ Some x → ⊥
none_some e = cc

-- what stands first among fewer stands first among more
first_stays : {X : Type 0} (f : ℕ → Option X) (a n m : ℕ) (x : X) → n ≤ m → slice_get (filter_map f (range_with_len a n)) 0 ≡ Some x → slice_get (filter_map f (range_with_len a m)) 0 ≡ Some x
first_stays f a zero m x le is = absurd (none_some is)
first_stays f a (suc n) zero x le is = absurd (omega (arith, le))
first_stays f a (suc n) (suc m) x le is =
    elim (f a) as (λ o. slice_get (cons_option o (filter_map f (range_with_len (a + 1) n))) 0 ≡ Some x → slice_get (cons_option o (filter_map f (range_with_len (a + 1) m))) 0 ≡ Some x) [
      | None ↦ λ is. first_stays f (a + 1) n m x (omega (arith, le)) is
      | Some y ↦ λ is. is
    ] is

no_cause : (v : ℕ) (o : Option BlockCause) → block_of v o ≡ None → o ≡ None
no_cause v None is = refl
no_cause v (Some c) is = absurd (none_some (sym is))

no_causes : (location : List ℕ) (os : Objects) (n : ℕ) → block_below location os n ≡ None → (v : ℕ) → v < n → cause_at location os v ≡ None
no_causes location os n is v low =
    no_cause v (cause_at location os v) (shift (λ v. block_of v (cause_at location os v)) (0 + v) v None (omega arith) (none_each (λ v. block_of v (cause_at location os v)) 0 n is v low))

log_of : List ℕ → Objects → ℕ → Option Block → Loaded
log_of location os end block =
    let commits = commits_below location os (option_map_or (λ b. b.version) block end) in
    record { commits = commits; bytes = printed_bytes commits; block = block }

with_block : Loaded → Option Block → Loaded
with_block l block = record { commits = l.commits; bytes = l.bytes; block = block }

gap_true : (vs : List ℕ) (n : ℕ) → n < length vs → gap_at vs n ≡ Some (record { version = n; cause = missing vs n })
gap_true vs n lt = let e : nat_lt n (length vs) ≡ true = grind (arith, nat_tests, lt) in rw e refl

gap_false : (vs : List ℕ) (n : ℕ) → length vs ≤ n → gap_at vs n ≡ None
gap_false vs n le = let e : nat_lt n (length vs) ≡ false = grind (arith, nat_tests, le) in rw e refl

-- a version that is missing
missing_at : (location : List ℕ) (os : Objects) (vs : List ℕ) (n : ℕ) → vs ≡ versions_in location os → text_at location os n ≡ None → cause_at location os n ≡ Some (missing vs n)
missing_at location os vs n is none = rw (none, is) refl

least_end : (location : List ℕ) (os : Objects) (vs : List ℕ) → vs ≡ versions_in location os → length vs < 2 ^ 63 → leading_from 0 vs ≤ end_of vs
least_end location os vs is small =
    let most = leading_most 0 vs in
    elim (nat_lt (leading_from 0 vs) (length vs)) as (λ b. nat_lt (leading_from 0 vs) (length vs) ≡ b → leading_from 0 vs ≤ end_of vs) [
      | true ↦ λ e. let g = (gap_there location os vs is small (grind (arith, nat_tests, e))).1 in omega (arith, g)
      | false ↦ λ e. let all : leading_from 0 vs ≡ length vs = grind (arith, nat_tests, e, most) in let w = all_leading vs all in omega (arith, w)
    ] refl

-- no version in front has a cause
unblocked : (location : List ℕ) (os : Objects) (vs : List ℕ) → vs ≡ versions_in location os → length vs < 2 ^ 63 → block_below location os (leading_from 0 vs) ≡ None
    → with_block (log_of location os (leading_from 0 vs) None) (gap_at vs (leading_from 0 vs)) ≡ log_of location os (end_of vs) (block_below location os (end_of vs))
unfolding log_of with_block
unblocked location os vs is small none =
    let most = leading_most 0 vs in
    elim (nat_lt (leading_from 0 vs) (length vs)) as (λ b. nat_lt (leading_from 0 vs) (length vs) ≡ b → with_block (log_of location os (leading_from 0 vs) None) (gap_at vs (leading_from 0 vs)) ≡ log_of location os (end_of vs) (block_below location os (end_of vs))) [
      | true ↦ λ e.
          let lt : leading_from 0 vs < length vs = grind (arith, nat_tests, e) in
          let g = gap_there location os vs is small lt in
          let b = blocked_at location os (leading_from 0 vs) (end_of vs) (missing vs (leading_from 0 vs)) g.1 (no_causes location os (leading_from 0 vs) none) (missing_at location os vs (leading_from 0 vs) is g.0) in
          ap (with_block (log_of location os (leading_from 0 vs) None)) (gap_true vs (leading_from 0 vs) lt) ∙ ap (log_of location os (end_of vs)) (sym b)
      | false ↦ λ e.
          let all : leading_from 0 vs ≡ length vs = grind (arith, nat_tests, e, most) in
          let end = all_leading vs all in
          ap (with_block (log_of location os (leading_from 0 vs) None)) (gap_false vs (leading_from 0 vs) (omega (arith, all)))
          ∙ ap (log_of location os (leading_from 0 vs)) (sym none) ∙ ap (λ k. log_of location os k (block_below location os k)) (sym end)
    ] refl

log_case : (location : List ℕ) (os : Objects) (vs : List ℕ) (block : Option Block) → vs ≡ versions_in location os → length vs < 2 ^ 63 → block_below location os (leading_from 0 vs) ≡ block
    → with_block (log_of location os (leading_from 0 vs) block) (option_or block (gap_at vs (leading_from 0 vs))) ≡ log_of location os (end_of vs) (block_below location os (end_of vs))
unfolding log_of with_block
log_case location os vs None is small at = unblocked location os vs is small at
log_case location os vs (Some b) is small at =
    ap (log_of location os (end_of vs)) (sym (first_stays (λ v. block_of v (cause_at location os v)) 0 (leading_from 0 vs) (end_of vs) b (least_end location os vs is small) at))

whole : (location : List ℕ) (os : Objects) (vs : List ℕ) (n : ℕ) (l r : Loaded) → vs ≡ versions_in location os → length vs < 2 ^ 63 → n ≡ leading_from 0 vs → l ≡ log_below location os n
    → r ≡ record { commits = l.commits; bytes = l.bytes; block = option_or l.block (gap_at vs n) } → r ≡ log_in location os
unfolding log_of with_block
whole location os vs n l r is small at below made =
    made ∙ ap (λ m. record { commits = m.commits; bytes = m.bytes; block = option_or m.block (gap_at vs n) }) below
    ∙ ap (λ k. record { commits = (log_below location os k).commits; bytes = (log_below location os k).bytes; block = option_or (block_below location os k) (gap_at vs k) }) at
    ∙ log_case location os vs (block_below location os (leading_from 0 vs)) is small refl
    ∙ ap (λ ws. log_of location os (end_of ws) (block_below location os (end_of ws))) is

-- the log that was loaded is that of the moment of the listing
pub loaded_log : (mid : Option Objects) (location : List ℕ) (vs : List ℕ) (n : ℕ) (kept : List (List Action)) (block told : Option Block) → IfSome mid (λ os. vs ≡ versions_in location os) → length vs < 2 ^ 63 → n ≡ leading_from 0 vs
    → IfSome mid (λ os. loaded_of kept block ≡ log_below location os n) → told ≡ option_or block (gap_at vs n) → IfSome mid (λ os. loaded_of kept told ≡ log_in location os)
loaded_log None location vs n kept block told is small at below made = tt
loaded_log (Some os) location vs n kept block told is small at below made = whole location os vs n (loaded_of kept block) (loaded_of kept told) is small at below (ap (loaded_of kept) made)

-- the versions in front are stored
pub are_stored : (mid : Option Objects) (location : List ℕ) (vs : List ℕ) (n : ℕ) → IfSome mid (λ os. vs ≡ versions_in location os) → length vs < 2 ^ 63 → n ≡ leading_from 0 vs → IfSome mid (AreStored location n)
are_stored None location vs n is small at = tt
are_stored (Some os) location vs n is small at = subst (λ k. AreStored location k os) (sym at) (leading_stored location os vs is small)

-- the versions of the names that were listed
pub listed_there : (mid : Option Objects) (location dir : List ℕ) (names : List (List ℕ)) (vs : List ℕ) → IfSome mid (λ os. names ≡ listing dir os) → dir ≡ folder location → vs ≡ filter_map version_of names
    → IfSome mid (λ os. vs ≡ versions_in location os)
listed_there None location dir names vs listed at is = tt
listed_there (Some os) location dir names vs listed at is = is ∙ ap (filter_map version_of) (listed ∙ ap (λ d. listing d os) at)
