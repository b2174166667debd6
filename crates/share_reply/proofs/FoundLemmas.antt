-- What is known of the files of a version where a page is made of them.
use Rattle.std.proofs.Common.{◌≡◌, ℕ, ◌<◌, ◌≤◌, Bool, true, false, cond, ◌&&◌, Result, Ok, Err, refl, arith, length}
use Rattle.std.specs.Prelude.{nat_lt, not}
use Rattle.std.proofs.lemmas.Bool.Decides.{nat_tests}
use Rattle.log_replay.specs.State.{State}
use Rattle.log_replay.specs.declared.refusal.ReplayRefusal.{ReplayRefusal}
use Rattle.log_replay.specs.declared.times.Bound.{Bound}
use Rattle.log_replay.specs.declared.times.Unresolved.{Unresolved}
use Rattle.share_book.specs.Parts.{files_of, from_first, head_found, is_latest, pinned_found, resolved_at, state_at, version_found, with_files}
use Rattle.share_book.specs.Views.{Log}
use Rattle.share_book.specs.declared.look.PartFound.{PartFound}
use Rattle.share_book.specs.declared.look.PartFound.TheVariants as part_found
use Rattle.share_book.specs.declared.look.TableRefusal.{TableRefusal}
use Rattle.share_book.specs.declared.look.TableRefusal.TheVariants as refusal
use Rattle.share_catalog.specs.Views.{Spot}
use Rattle.share_reply.specs.Answer.{Page}
use Rattle.share_reply.specs.Refusing.{Refused}

-- the files of a version that is shared, and the page that is made of them
pub record FoundAt (spot : Spot) (log : Log) (f : PartFound → Result Page Refused) (p : Page) (version : ℕ) : Type 0 where
  pub shared : spot.first ≤ version
  pub state : State
  pub is_state : state_at log version ≡ Ok state
  pub page_is : f (part_found.Files version state) ≡ Ok p

-- the same of the version that a bound means
pub record FoundBy (spot : Spot) (log : Log) (b : Bound) (f : PartFound → Result Page Refused) (p : Page) : Type 0 where
  pub version : ℕ
  pub is_version : resolved_at log b ≡ Ok version
  pub found : FoundAt spot log f p version

-- of what isn't found no page is made
abbrev pub Refuses : (PartFound → Result Page Refused) → Type 0
Refuses f = (why : TableRefusal) (p : Page) → f (part_found.Refused why) ≡ Ok p → ⊥

state_from : (spot : Spot) (log : Log) (f : PartFound → Result Page Refused) (p : Page) (v : ℕ) (r : Result State ReplayRefusal) → Refuses f → spot.first ≤ v → state_at log v ≡ r → f (files_of v r) ≡ Ok p → FoundAt spot log f p v
state_from spot log f p v (Err why) none shared is e = absurd (none _ p e)
state_from spot log f p v (Ok state) none shared is e = record { shared = shared; state = state; is_state = is; page_is = e }

version_from : (spot : Spot) (log : Log) (f : PartFound → Result Page Refused) (p : Page) (v : ℕ) (b : Bool) → Refuses f → nat_lt v spot.first ≡ b
    → f (with_files log (cond b (part_found.Refused (refusal.NotShared spot.first)) (part_found.Version v))) ≡ Ok p → FoundAt spot log f p v
version_from spot log f p v true none t e = absurd (none _ p e)
version_from spot log f p v false none t e = state_from spot log f p v (state_at log v) none (grind (arith, nat_tests, t)) refl e

bound_from : (spot : Spot) (log : Log) (b : Bound) (f : PartFound → Result Page Refused) (p : Page) (r : Result ℕ Unresolved) → Refuses f → resolved_at log b ≡ r → f (with_files log (version_found spot r)) ≡ Ok p → FoundBy spot log b f p
bound_from spot log b f p (Err why) none is e = absurd (none _ p e)
bound_from spot log b f p (Ok v) none is e = record { version = v; is_version = is; found = version_from spot log f p v (nat_lt v spot.first) none refl e }

head_from : (spot : Spot) (log : Log) (b : Bound) (f : PartFound → Result Page Refused) (p : Page) (c : Bool) → Refuses f
    → f (with_files log (cond c (part_found.Refused refusal.NoHistory) (version_found spot (resolved_at log b)))) ≡ Ok p → FoundBy spot log b f p
head_from spot log b f p true none e = absurd (none _ p e)
head_from spot log b f p false none e = bound_from spot log b f p (resolved_at log b) none refl e

-- the version that a bound means
pub found_by : (spot : Spot) (log : Log) (b : Bound) (f : PartFound → Result Page Refused) (p : Page) → Refuses f → f (with_files log (head_found spot log b)) ≡ Ok p → FoundBy spot log b f p
found_by spot log b f p none e = head_from spot log b f p (not spot.history && not (is_latest b)) none e

kept_from : (spot : Spot) (log : Log) (f : PartFound → Result Page Refused) (p : Page) (v : ℕ) (c : Bool) → Refuses f → nat_lt v (length log.states) ≡ c
    → f (with_files log (cond c (from_first spot.first v (part_found.Version v)) (part_found.Refused refusal.Ahead))) ≡ Ok p → (v < length log.states) × FoundAt spot log f p v
kept_from spot log f p v false none is e = absurd (none _ p e)
kept_from spot log f p v true none is e = (grind (arith, nat_tests, is), version_from spot log f p v (nat_lt v spot.first) none refl e)

-- a version that was told before
pub pinned_at : (spot : Spot) (log : Log) (v : ℕ) (f : PartFound → Result Page Refused) (p : Page) → Refuses f → f (with_files log (pinned_found spot log v)) ≡ Ok p → (v < length log.states) × FoundAt spot log f p v
pinned_at spot log v f p none e = kept_from spot log f p v (nat_lt v (length log.states)) none refl e
