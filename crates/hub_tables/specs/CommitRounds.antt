-- What the steps of a commit do, one after another.
use Rattle.std.specs.Prelude.{◌≡◌, ℕ, ◌+◌, ◌^◌, ◌≤◌, ◌<◌, Bool, true, false, List, [], ◌∷◌, ◌++◌, Option, Some, None, Result, Ok, Err, IfSome, IsSome, length}
use Rattle.std.specs.FinMap as finmap
use Rattle.edge_core.specs.Objects.{Objects}
use Rattle.log_actions.specs.declared.actions.Action.{Action}
use Rattle.log_actions.specs.CommitTexts.{commit_text, printed_bytes}
use Rattle.log_commit.specs.Texts.{commit_in}
use Rattle.log_replay.specs.Support.{refusal_of}
use Rattle.log_store.specs.Loads.{Looked}
use Rattle.commit_check.specs.Lawful.{is_lawful}
use Rattle.commit_check.specs.declared.conflict.NotAdmitted.{NotAdmitted}
use Rattle.commit_check.specs.declared.conflict.NotAdmitted.TheVariants as not_admitted
use Rattle.commit_check.specs.declared.offer.Offer.{Offer}
use Rattle.share_book.specs.declared.entry.Act.{Act}
use Rattle.share_book.specs.declared.entry.Act.TheVariants.{Own, Abort}
use Rattle.share_book.specs.History.{table_on}
use Rattle.share_book.specs.Legal.{There}
use Rattle.hub_tables.specs.declared.commit.CommitRefusal.{CommitRefusal}
use Rattle.hub_tables.specs.declared.commit.CommitRefusal.TheVariants as refusal
use Rattle.hub_tables.specs.declared.commit.PlaceEnd.{PlaceEnd}
use Rattle.hub_tables.specs.declared.commit.PlaceEnd.TheVariants as place
use Rattle.hub_tables.specs.declared.table_rounds.LogEnd.{LogEnd}
use Rattle.hub_tables.specs.declared.table_rounds.LogEnd.TheVariants as end
use Rattle.hub_tables.specs.declared.table_rounds.LogHead.{LogHead}
use Rattle.hub_tables.specs.declared.table_rounds.NextCommit.TheVariants as next
use Rattle.hub_calls.specs.Calls.{P, acknowledged}
use Rattle.hub_tables.specs.Additions.{AtMost, IsOneMore, Places}
use Rattle.hub_tables.specs.Commits.{CommitEnds, CommitLeft, failed_commit}
use Rattle.hub_tables.specs.FoundCommits.{AreFound}
use Rattle.hub_tables.specs.TableCalls.{StopsOn}
use Rattle.hub_tables.specs.TableRounds.{HoldsHead, Nexts, failed_end}

-- the caller's Begin is open on a log that isn't blocked
abbrev pub HoldsSome : P → ℕ → Type 0
HoldsSome p j = (h : LogHead) × HoldsHead p j h

-- a log takes the commit of its own server, and its printed text is no longer than a commit's may be
pub record IsFit (log : List (List Action)) (c : List Action) : Type 0 where
  pub lawful : is_lawful log c ≡ true
  pub supported : refusal_of (log ++ c ∷ []) ≡ None
  pub short : length (commit_text c) ≤ 2 ^ 24

-- ---- the put

-- The commit was put and published, and its text is read as it; another object has its name, and nothing was done; or the caller ended what it began.
abbrev pub PlacesOn : PlaceEnd → ℕ → List Action → P → P → Type 0
PlacesOn place.Done j c p q = StopsOn p q j [] (Own c ∷ []) × (commit_in (commit_text c) ≡ Ok c)
PlacesOn place.Exists j c p q = q ≡ p
PlacesOn place.Limit j c p q = StopsOn p q j [] (Abort ∷ []) × There (table_on j p.seen) (λ t. 2 ^ 26 < printed_bytes (t.commits ++ c ∷ []))
PlacesOn place.StoreFault j c p q = StopsOn p q j [] (Abort ∷ [])
PlacesOn place.NoMemory j c p q = StopsOn p q j [] (Abort ∷ [])

-- an object has the name
abbrev pub HasName : List ℕ → Option Objects → Type 0
HasName name new = IfSome new (λ os. IsSome (finmap.get os name))

abbrev pub PlacedStore : PlaceEnd → (name bytes : List ℕ) → Option Objects → Option Objects → Bool → Bool → Type 0
PlacedStore place.Done name bytes old new was is = Places old new was is name bytes
PlacedStore place.Exists name bytes old new was is = Looked old new was is × HasName name new
PlacedStore place.Limit name bytes old new was is = Looked old new was is
PlacedStore place.StoreFault name bytes old new was is = AtMost old new was is (IsOneMore old new name bytes)
PlacedStore place.NoMemory name bytes old new was is = Looked old new was is

abbrev pub failed_place : PlaceEnd → Bool
failed_place place.StoreFault = true
failed_place _ = false

-- how many puts the store has stored after it
abbrev pub acknowledged_place : ℕ → PlaceEnd → ℕ
acknowledged_place before place.Done = before + 1
acknowledged_place before _ = before

-- ---- rounds

abbrev pub refused_by : LogEnd → ℕ → CommitRefusal
refused_by end.Blocked version = refusal.Blocked version
refused_by end.StoreFault version = refusal.StoreFault
refused_by end.NoMemory version = refusal.NoMemory

abbrev pub refused_for : NotAdmitted → CommitRefusal
refused_for (not_admitted.Conflict c) = refusal.Conflict c
refused_for not_admitted.NoMemory = refusal.NoMemory

-- the next version was published, or the caller ended what it began
abbrev pub Agains : Option LogEnd → List ℕ → ℕ → LogHead → LogHead → Option Objects → P → P → Type 0
Agains None location j h h' new p q = Nexts next.Found location j h h' new p q
Agains (Some x) location j h h' new p q = Nexts (next.End x) location j h h' new p q

abbrev pub failed_again : Option LogEnd → Bool
failed_again None = false
failed_again (Some x) = failed_end x

-- how many commits a round found that ended so
abbrev pub OneFound : Result ℕ CommitRefusal → ℕ → Type 0
OneFound (Err refusal.NotLoaded) m = ⊥
OneFound (Err refusal.Contended) m = ⊥
OneFound (Err refusal.NoMemory) m = m ≤ 1
OneFound _ m = m ≡ 0

-- from where the caller had begun on: found commits, and then the acts that end it
pub record CommitRuns (r : Result ℕ CommitRefusal) (now : ℕ) (o : Offer) (old new : Option Objects) (p q : P) (j : ℕ) : Type 0 where
  pub found : List (List Action)
  pub ends : List Act
  pub stops : StopsOn p q j found ends
  pub told : There (table_on j p.seen) (λ t. AreFound o.location new t.commits found × CommitEnds r now o old new t.block (t.commits ++ found) (length found) ends)

-- a found commit was published, or the call is at its end
abbrev pub CommitRounds : Option (Result ℕ CommitRefusal) → ℕ → Offer → ℕ → LogHead → LogHead → Option Objects → Option Objects → P → P → Type 0
CommitRounds None now o j h h' old new p q = Nexts next.Found o.location j h h' new p q
CommitRounds (Some r) now o j h h' old new p q = (x : CommitRuns r now o old new p q j) × OneFound r (length x.found)

abbrev pub RoundLeft : Option (Result ℕ CommitRefusal) → ℕ → Offer → ℕ → Option Objects → Option Objects → Bool → Bool → P → Type 0
RoundLeft None now o j old new was is q = Looked old new was is
RoundLeft (Some r) now o j old new was is q = CommitLeft r now o j old new was is q

abbrev pub failed_round : Option (Result ℕ CommitRefusal) → Bool
failed_round None = false
failed_round (Some r) = failed_commit r

-- how many puts the store has stored after a round
abbrev pub acknowledged_round : ℕ → Option (Result ℕ CommitRefusal) → ℕ
acknowledged_round before None = before
acknowledged_round before (Some r) = acknowledged before r
