-- The log that is loaded begins with each kept log that objects stand for.
use Rattle.std.proofs.Common.{◌≡◌, inl, inr, ℕ, ◌+◌, ◌-◌, ◌<◌, ◌≤◌, List, [], ◌∷◌, ◌++◌, length, Bool, true, false, ◌==◌, Option, Some, None, Ok, option_map, zero, suc, refl, sym, ap, ◌∙◌, subst, arith, append_assoc, fold, max, is_some, nat_lt, take, length-append}
use Rattle.std.specs.Prelude.{◌^◌, IsSome, filter_map, slice_get}
use Rattle.std.specs.List.{cons_option, list_any, range_with_len}
use Rattle.std.specs.Option.{option_map_or}
use mathlib.Core.List.{IsPrefix}
use Rattle.std.proofs.lemmas.Bool.{eqb-true}
use Rattle.std.proofs.lemmas.Bool.Decides.{leb_tells, nat_tests}
use Rattle.std.proofs.lemmas.List.{append-nil, take-append-le}
use Rattle.std.proofs.lemmas.List.Elements.{filter_map-append}
use Rattle.std.proofs.lemmas.List.Sums.{sum_by-append}
use Rattle.edge_core.specs.Objects.{Objects}
use Rattle.log_actions.specs.declared.actions.Action.{Action}
use Rattle.log_actions.specs.CommitTexts.{commit_text, printed_bytes}
use Rattle.log_commit.specs.Texts.{commit_in}
use Rattle.log_replay.specs.Reconciliation.{actions_in, last_meta, last_protocol, meta_at, protocol_at}
use Rattle.log_replay.specs.Standing.{IsSupported}
use Rattle.log_replay.specs.Support.{own_actions, refusal_of}
use Rattle.log_replay.proofs.NextLemmas.{supported_read}
use Rattle.log_replay.proofs.RefusalLemmas.{IsRead, cause_is, not_refused}
use Rattle.log_store.specs.Backed.{BackedLogsAreLoaded, IsBacked}
use Rattle.log_store.specs.Log.{block_below, cause_at, cause_with, commit_at, commits_below, end_of, text_at, versions_in}
use Rattle.log_store.specs.Reading.{Adds, cause_found}
use Rattle.log_store.specs.declared.loaded.Block.{Block}
use Rattle.log_store.specs.declared.loaded.BlockCause.{BlockCause}
use Rattle.log_store.proofs.Keeping.{IsReading, block_of, more_at}
use Rattle.log_store.proofs.VersionLemmas.{is_stored, max_keeps}

-- ---- a front of a log that is kept is kept

get_front : (xs ys : List (List Action)) (v : ℕ) → v < length xs → slice_get (xs ++ ys) v ≡ slice_get xs v
get_front [] ys v lt = absurd (omega (arith, lt))
get_front (x ∷ xs) ys zero lt = refl
get_front (x ∷ xs) ys (suc v) lt = get_front xs ys v (omega (arith, lt))

read_front : (xs ys : List (List Action)) (v : ℕ) → v < length xs → IsRead (xs ++ ys) v → IsRead xs v
read_front xs ys v lt read =
    let same : take (v + 1) xs ≡ take (v + 1) (xs ++ ys) = sym (take-append-le (v + 1) xs ys (omega (arith, lt))) in
    let protocols : protocol_at xs v ≡ protocol_at (xs ++ ys) v = ap (λ (l : List (List Action)). last_protocol (actions_in l)) same in
    let metas : meta_at xs v ≡ meta_at (xs ++ ys) v = ap (λ (l : List (List Action)). last_meta (actions_in l)) same in
    record {
      protocol = ap is_some protocols ∙ read.protocol;
      meta = ap is_some metas ∙ read.meta;
      cause = cause_is _ _ _ _ _ _ protocols metas (ap own_actions (sym (get_front xs ys v lt))) ∙ read.cause;
    }

longer : (xs : List (List Action)) (y : List Action) → length (xs ++ y ∷ []) ≡ length xs + 1
longer xs y = length-append xs (y ∷ []) ∙ omega arith

-- a commit of the log is kept after those before it
kept_after : (front back : List (List Action)) (c : List Action) → IsSupported ((front ++ c ∷ []) ++ back) → printed_bytes ((front ++ c ∷ []) ++ back) ≤ 2 ^ 26 → cause_with front c ≡ None
kept_after front back c supported fits =
    let sum : printed_bytes ((front ++ c ∷ []) ++ back) ≡ printed_bytes (front ++ c ∷ []) + printed_bytes back = sum_by-append (λ (a : List Action). length (commit_text a)) (front ++ c ∷ []) back in
    let whole : length ((front ++ c ∷ []) ++ back) ≡ length (front ++ c ∷ []) + length back = length-append (front ++ c ∷ []) back in
    let long = longer front c in
    let small : nat_lt (2 ^ 26) (printed_bytes (front ++ c ∷ [])) ≡ false = grind (arith, nat_tests, sum, fits) in
    let read : refusal_of (front ++ c ∷ []) ≡ None =
    not_refused (front ++ c ∷ []) (omega (arith, long)) (λ v lt. read_front (front ++ c ∷ []) back v lt (supported_read ((front ++ c ∷ []) ++ back) supported v (omega (arith, whole, lt)))) in
    rw (small, read) refl

-- ---- the versions of a log that objects stand for are read one after another

seam : (front back : List (List Action)) (c : List Action) → slice_get ((front ++ c ∷ []) ++ back) (length front) ≡ Some c
seam [] back c = refl
seam (x ∷ front) back c = seam front back c

adds_at : (front : List (List Action)) (c : List Action) (found : Option (List ℕ)) → option_map commit_in found ≡ Some (Ok c) → cause_with front c ≡ None → Adds front (front ++ c ∷ []) found c
adds_at front c None read kept = absurd cc
adds_at front c (Some bytes) read kept =
    let is : commit_in bytes ≡ Ok c = cc in
    record { read = read; kept = (let same : cause_found front (Some bytes) ≡ cause_with front c = rw is refl in same ∙ kept); after = refl }

bytes_of : (found : Option (List ℕ)) (c : List Action) → option_map commit_in found ≡ Some (Ok c) → (bytes : List ℕ) × (found ≡ Some bytes)
bytes_of None c read = absurd cc
bytes_of (Some bytes) c read = (bytes, refl)

record IsKeptBacked (location : List ℕ) (os : Objects) (log : List (List Action)) : Type 0 where
  supported : IsSupported log
  fits : printed_bytes log ≤ 2 ^ 26
  backed : IsBacked location (Some os) log

reads : (location : List ℕ) (os : Objects) (front back : List (List Action)) → IsKeptBacked location os (front ++ back) → IsReading location os (length front) front → IsReading location os (length (front ++ back)) (front ++ back)
reads location os front [] kept so = subst (λ (l : List (List Action)). IsReading location os (length l) l) (sym (append-nil front)) so
reads location os front (c ∷ back) kept so =
    let split : (front ++ c ∷ []) ++ back ≡ front ++ c ∷ back = append_assoc front (c ∷ []) back in
    let whole : IsKeptBacked location os ((front ++ c ∷ []) ++ back) = subst (IsKeptBacked location os) (sym split) kept in
    let is : option_map commit_in (text_at location os (length front)) ≡ Some (Ok c) = whole.backed (length front) c (seam front back c) in
    let there = bytes_of (text_at location os (length front)) c is in
    let more : IsReading location os (length front + 1) (front ++ c ∷ []) =
    more_at location os (length front) front (front ++ c ∷ []) c there.0 there.1 so (adds_at front c (text_at location os (length front)) is (kept_after front back c whole.supported whole.fits)) in
    subst (λ (l : List (List Action)). IsReading location os (length l) l) split
    (reads location os (front ++ c ∷ []) back whole (subst (λ (n : ℕ). IsReading location os n (front ++ c ∷ [])) (sym (longer front c)) more))

-- ---- the log ends no earlier

range_split : (a n k : ℕ) → range_with_len a (n + k) ≡ range_with_len a n ++ range_with_len (a + n) k
range_split a zero k = let e : a ≡ a + 0 = omega arith in let f : zero + k ≡ k = omega arith in ap (range_with_len a) f ∙ ap (λ v. range_with_len v k) e
range_split a (suc n) k =
    let e : suc n + k ≡ suc (n + k) = omega arith in
    let f : a + 1 + n ≡ a + suc n = omega arith in
    ap (range_with_len a) e ∙ ap (λ vs. a ∷ vs) (range_split (a + 1) n k ∙ ap (λ v. range_with_len (a + 1) n ++ range_with_len v k) f)

-- fewer versions give a front
begins : (location : List ℕ) (os : Objects) (n m : ℕ) → n ≤ m → IsPrefix (commits_below location os n) (commits_below location os m)
begins location os n m le =
    let e : n + (m - n) ≡ m = omega (arith, le) in
    (filter_map (commit_at location os) (range_with_len (0 + n) (m - n)), sym (filter_map-append (commit_at location os) (range_with_len 0 n) (range_with_len (0 + n) (m - n))) ∙ ap (filter_map (commit_at location os)) (sym (range_split 0 n (m - n)) ∙ ap (range_with_len 0) e))

below_fold : (v a : ℕ) (vs : List ℕ) → list_any (λ w. w == v) vs ≡ true → v < fold (λ end w. max end (w + 1)) a vs
below_fold v a [] e = absurd cc
below_fold v a (w ∷ vs) e =
    elim (w == v) as (λ b. (w == v) ≡ b → v < fold (λ end w. max end (w + 1)) a (w ∷ vs)) [
      | true ↦ λ is. let same : w ≡ v = eqb-true w v is in let h = max_keeps (max a (w + 1)) vs in omega (arith, same, h)
      | false ↦ λ is. below_fold v (max a (w + 1)) vs (let rest : list_any (λ x. x == v) (w ∷ vs) ≡ list_any (λ x. x == v) vs = rw is refl in sym rest ∙ e)
    ] refl

some_is : {X : Type 0} (o : Option X) (x : X) → o ≡ Some x → is_some o ≡ true
some_is o x e = ap is_some e

end_behind : (location : List ℕ) (os : Objects) (log : List (List Action)) → length log ≤ 2 ^ 63 → IsBacked location (Some os) log → length log ≤ end_of (versions_in location os)
end_behind location os log short backed = by_case (length log) refl where
  last : (xs : List (List Action)) (n : ℕ) → length xs ≡ suc n → (c : List Action) × (slice_get xs n ≡ Some c)
  last [] n e = absurd (omega (arith, e))
  last (x ∷ xs) zero e = (x, refl)
  last (x ∷ xs) (suc n) e = last xs n (omega (arith, e))

  by_case : (n : ℕ) → length log ≡ n → n ≤ end_of (versions_in location os)
  by_case zero e = omega arith
  by_case (suc n) e =
      let c = last log n e in
      let there = bytes_of (text_at location os n) c.0 (backed n c.0 c.1) in
      let low = below_fold n 0 (versions_in location os) (is_stored location os n (omega (arith, e, short)) ∙ some_is (text_at location os n) there.0 there.1) in
      omega (arith, low)

abbrev version_in : ℕ → Option Block → ℕ
version_in a None = a
version_in a (Some b) = b.version

late_by : (location : List ℕ) (os : Objects) (many a n : ℕ) (b : Block) → ((v : ℕ) → v < many → cause_at location os v ≡ None)
    → (slice_get (filter_map (λ v. block_of v (cause_at location os v)) (range_with_len (a + 1) n)) 0 ≡ Some b → many ≤ b.version)
    → (o : Option BlockCause) → cause_at location os a ≡ o → slice_get (cons_option (block_of a o) (filter_map (λ v. block_of v (cause_at location os v)) (range_with_len (a + 1) n))) 0 ≡ Some b → many ≤ b.version
late_by location os many a n b none later None e is = later is
late_by location os many a n b none later (Some c) e is =
    let at : a ≡ b.version = ap (version_in a) is in
    elim (leb_tells many a) as (λ s. many ≤ b.version) [
      | inl h ↦ omega (arith, h.1, at)
      | inr h ↦ absurd (let z = none a h.1 in cc)
    ]

-- a block stands behind versions without a cause
late : (location : List ℕ) (os : Objects) (many a n : ℕ) (b : Block) → ((v : ℕ) → v < many → cause_at location os v ≡ None)
    → slice_get (filter_map (λ v. block_of v (cause_at location os v)) (range_with_len a n)) 0 ≡ Some b → many ≤ b.version
late location os many a zero b none is = absurd cc
late location os many a (suc n) b none is = late_by location os many a n b none (late location os many (a + 1) n b none) (cause_at location os a) refl is

loaded_by : (location : List ℕ) (os : Objects) (n end : ℕ) → n ≤ end → ((v : ℕ) → v < n → cause_at location os v ≡ None) → (block : Option Block) → block_below location os end ≡ block
    → IsPrefix (commits_below location os n) (commits_below location os (option_map_or (λ b. b.version) block end))
loaded_by location os n end le none None e = begins location os n end le
loaded_by location os n end le none (Some b) e = begins location os n b.version (late location os n 0 end b none e)

pub loaded : BackedLogsAreLoaded
loaded location os log short supported fits backed =
    let first : IsReading location os (length {A = List Action} []) [] = record { commits = refl; none = λ v lt. absurd (omega (arith, lt)) } in
    let so = reads location os [] log (record { supported = supported; fits = fits; backed = backed }) first in
    let end = end_of (versions_in location os) in
    subst (λ (l : List (List Action)). IsPrefix l (commits_below location os (option_map_or (λ b. b.version) (block_below location os end) end))) (sym so.commits)
    (loaded_by location os (length log) end (end_behind location os log short backed) so.none (block_below location os end) refl)
