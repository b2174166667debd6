-- What a commit of an offer adds, says and stores (Delta Lake PROTOCOL.md, "Delta Log Entries").
use Rattle.std.specs.Prelude.{◌≡◌, ◌⊎◌, ℕ, ◌^◌, ◌≤◌, ◌<◌, Bool, true, false, List, [], ◌∷◌, ◌++◌, Option, Some, None, Result, Ok, Err, length}
use Rattle.edge_core.specs.Objects.{Lacks, Objects}
use Rattle.log_actions.specs.declared.actions.Action.{Action}
use Rattle.log_actions.specs.CommitTexts.{commit_text, printed_bytes}
use Rattle.log_commit.specs.Names.{commit_name}
use Rattle.log_store.specs.Backed.{HasCommit}
use Rattle.log_store.specs.Loads.{Looked}
use Rattle.commit_check.specs.Admission.{admitted}
use Rattle.commit_check.specs.declared.offer.Offer.{Offer}
use Rattle.share_book.specs.declared.entry.Entry.{Entry}
use Rattle.share_book.specs.declared.entry.Act.{Act}
use Rattle.share_book.specs.declared.entry.Act.TheVariants.{Own, Blocked, Abort}
use Rattle.share_book.specs.History.{entry, table_on}
use Rattle.share_book.specs.Legal.{There, log_at}
use Rattle.hub_calls.specs.Calls.{Adds, P}
use Rattle.hub_tables.specs.Additions.{AtMost, IsOneMore, Places}
use Rattle.hub_tables.specs.FoundCommits.{IsUnkept, RanOn}
use Rattle.hub_tables.specs.declared.commit.CommitRefusal.{CommitRefusal}
use Rattle.hub_tables.specs.declared.commit.CommitRefusal.TheVariants as refusal

-- the next version wasn't there
abbrev pub LacksNext : Offer → Option Objects → List (List Action) → Type 0
LacksNext o old log = Lacks (commit_name o.location (length log)) old

-- the offer is admitted, but with its commit the log's printed texts pass 64 MiB
abbrev pub PassesLimit : ℕ → Offer → List (List Action) → Type 0
PassesLimit now o log = (c : List Action) × (admitted log now o ≡ Ok c) × (2 ^ 26 < printed_bytes (log ++ c ∷ []))

-- What an answer says by the log as it stood before the acts that ended the call, so many of whose commits were found: the version
-- is the log's next; a conflict is the first of the offer after that log. `block` is that of the log at the Begin; of one that was blocked neither
-- conflict nor limit is told.
abbrev pub CommitEnds : Result ℕ CommitRefusal → ℕ → Offer → Option Objects → Option Objects → (block : Option ℕ) → (log : List (List Action)) → (found : ℕ) → List Act → Type 0
CommitEnds (Ok v) now o old new block log found ends = (v ≡ length log) × ((c : List Action) × (admitted log now o ≡ Ok c) × (ends ≡ Own c ∷ [])) × (found < 64)
CommitEnds (Err refusal.NotLoaded) now o old new block log found ends = ⊥
CommitEnds (Err (refusal.Blocked n)) now o old new block log found ends =
    ((block ≡ Some n) × (found ≡ 0) × (ends ≡ Abort ∷ [])) ⊎ ((n ≡ length log) × IsUnkept o.location new log × (found < 64) × (ends ≡ Blocked n ∷ Abort ∷ []))
CommitEnds (Err refusal.Contended) now o old new block log found ends = (found ≡ 64) × (ends ≡ Abort ∷ [])
CommitEnds (Err (refusal.Conflict c)) now o old new block log found ends = (block ≡ None) × (admitted log now o ≡ Err c) × LacksNext o old log × (found < 64) × (ends ≡ Abort ∷ [])
CommitEnds (Err refusal.Limit) now o old new block log found ends = (block ≡ None) × PassesLimit now o log × LacksNext o old log × (found < 64) × (ends ≡ Abort ∷ [])
CommitEnds (Err refusal.StoreFault) now o old new block log found ends = (found < 64) × (ends ≡ Abort ∷ [])
CommitEnds (Err refusal.NoMemory) now o old new block log found ends = (found ≤ 64) × (ends ≡ Abort ∷ [])

-- a call that added entries on the log of number j
pub record CommitRan (r : Result ℕ CommitRefusal) (now : ℕ) (o : Offer) (old new : Option Objects) (p q : P) (j : ℕ) : Type 0 where
  pub found : List (List Action)
  pub ends : List Act
  pub ran : RanOn o.location new p q j found ends
  pub told : There (table_on j ran.from) (λ t. CommitEnds r now o old new t.block (t.commits ++ found) (length found) ends)

-- the offer's log has this number
abbrev pub OnLog : Offer → P → (ℕ → Type 0) → Type 0
OnLog o q Q = (j : ℕ) × (log_at q.seen o.location ≡ Some j) × Q j

-- it added entries, or memory was wanting before the Begin
abbrev pub CommitBegan : Result ℕ CommitRefusal → ℕ → Offer → Option Objects → Option Objects → P → P → ℕ → Type 0
CommitBegan r now o old new p q j = CommitRan r now o old new p q j ⊎ ((r ≡ Err refusal.NoMemory) × Adds p q [])

-- no log was loaded from the offer's location; one of more than 256 bytes is no table's
abbrev pub IsNoLog : Offer → P → Type 0
IsNoLog o q = (log_at q.seen o.location ≡ None) ⊎ (256 < length o.location)

-- What a commit's call added, and what its answer says of it.
abbrev pub Commits : Result ℕ CommitRefusal → ℕ → Offer → Option Objects → Option Objects → P → P → Type 0
Commits r now o old new p q = ((r ≡ Err refusal.NotLoaded) × Adds p q [] × IsNoLog o q) ⊎ OnLog o q (λ j. CommitBegan r now o old new p q j)

-- ---- the store

-- the last entry is the caller's own commit on this log
abbrev pub EndsOwn : P → ℕ → List Action → Type 0
EndsOwn q j c = (before : List Entry) × (q.seen ≡ before ++ entry q.number j (Own c) ∷ [])

-- the commit of the offer stands under the name of the version after the log
abbrev pub HasNext : ℕ → Offer → Option Objects → Option Objects → List (List Action) → Type 0
HasNext now o old new log = (c : List Action) × (admitted log now o ≡ Ok c) × IsOneMore old new (commit_name o.location (length log)) (commit_text c)

-- What is stored: after Ok the printed text of the commit that was published, under the name of its version, which is read as this commit; after
-- a fault perhaps that of the admitted one, under the next version's; else nothing.
abbrev pub CommitLeft : Result ℕ CommitRefusal → ℕ → Offer → ℕ → Option Objects → Option Objects → Bool → Bool → P → Type 0
CommitLeft (Ok v) now o j old new was is q = (c : List Action) × EndsOwn q j c × Places old new was is (commit_name o.location v) (commit_text c) × HasCommit o.location new v c
CommitLeft (Err refusal.StoreFault) now o j old new was is q = AtMost old new was is (There (table_on j q.seen) (λ t. HasNext now o old new t.commits))
CommitLeft _ now o j old new was is q = Looked old new was is

abbrev pub CommitLeaves : Result ℕ CommitRefusal → ℕ → Offer → Option Objects → Option Objects → Bool → Bool → P → Type 0
CommitLeaves r now o old new was is q = ((r ≡ Err refusal.NotLoaded) × Looked old new was is) ⊎ OnLog o q (λ j. CommitLeft r now o j old new was is q)

abbrev pub failed_commit : Result ℕ CommitRefusal → Bool
failed_commit (Err refusal.StoreFault) = true
failed_commit _ = false
