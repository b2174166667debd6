-- Laws of histories: what stays as one goes on, and what a recipient doesn't see.
use Rattle.std.specs.Prelude.{◌≡◌, ◌≢◌, ℕ, ◌+◌, ◌<◌, ◌≤◌, List, [], ◌∷◌, ◌++◌, Bool, true, false, Some, None, IfSome, Ok, length, take}
use Rattle.log_actions.specs.declared.actions.Action.{Action}
use Rattle.log_replay.specs.State.{State, state_of}
use Rattle.share_catalog.specs.Catalogue.{binding_edition, credential, grant_edition, granted, says_credential}
use Rattle.share_catalog.specs.Laws.{names_recipient, names_share}
use Rattle.share_catalog.specs.Views.{Spot, grant, name_of, named, shared, token}
use Rattle.share_catalog.specs.declared.edit.Edit.{Edit}
use Rattle.share_catalog.specs.declared.table_name.TableName.{TableName}
use Rattle.turn_cell.specs.Entries.{made_by}
use Rattle.share_book.specs.History.{caller_of, edit_in, edits, open_on, start_in, starts, table_on}
use Rattle.share_book.specs.Legal.{IsLegal, There}
use Rattle.share_book.specs.Legal.{log_at as number_at}
use Rattle.share_book.specs.Parts.{state_at, up_to}
use Rattle.share_book.specs.Views.{log_at, shown, view_by, whole_log}
use Rattle.share_book.specs.declared.entry.Entry.{Entry}

-- As a history goes on, its logs only grow: the versions that one has stay as they are, and so do their states, and what is shown of them.
pub record LogsGrow : Type 0 where
  pub grows : (history later : List Entry) (location : List ℕ) → (more : List (List Action)) × ((log_at (history ++ later) location).commits ≡ (log_at history location).commits ++ more)
  pub stays : (history later : List Entry) (location : List ℕ) (version : ℕ) → version < length (log_at history location).commits
      → up_to (log_at (history ++ later) location) version ≡ up_to (log_at history location) version
  pub shows : (history later : List Entry) (spot : Spot) (version : ℕ) → version < length (shown (log_at history) spot).states
      → state_at (shown (log_at (history ++ later)) spot) version ≡ state_at (shown (log_at history) spot) version

-- The state of each version of a log is that of the commits up to it.
abbrev pub LogsHaveStates : Type 0
LogsHaveStates = (commits : List (List Action)) (blocked : Bool) → (length (whole_log commits blocked).states ≡ length commits)
    × ((version : ℕ) → version < length commits → state_at (whole_log commits blocked) version ≡ state_of (take (version + 1) commits))

-- Each version that a legal history keeps of a log has a state, so that the files of a version that is found are never refused.
abbrev pub VersionsHaveStates : Type 0
VersionsHaveStates = (history : List Entry) (location : List ℕ) (version : ℕ) → IsLegal history → version < length (log_at history location).commits → (state : State) × (state_of (up_to (log_at history location) version) ≡ Ok state)

-- Each beginning of a legal history is legal.
abbrev pub FrontsAreLegal : Type 0
FrontsAreLegal = (history later : List Entry) → IsLegal (history ++ later) → IsLegal history

-- While a caller's Begin is open on a table's log, what others add leaves that log as it was, and its Begin open.
abbrev pub OthersLeaveLogs : Type 0
OthersLeaveLogs = (history later : List Entry) (caller number : ℕ) → IsLegal (history ++ later) → 0 < number → number ≤ length (starts history) → open_on number history ≡ Some caller → made_by caller_of caller later ≡ []
    → (open_on number (history ++ later) ≡ Some caller) × (table_on number (history ++ later) ≡ table_on number history)

-- While it is open on the catalogue, what others add leaves the edits and the loads.
abbrev pub OthersLeaveCatalogue : Type 0
OthersLeaveCatalogue = (history later : List Entry) (caller : ℕ) → IsLegal (history ++ later) → open_on 0 history ≡ Some caller → made_by caller_of caller later ≡ []
    → (open_on 0 (history ++ later) ≡ Some caller) × (edits (history ++ later) ≡ edits history) × (starts (history ++ later) ≡ starts history)

-- No edition falls.
abbrev pub EditionsRise : Type 0
EditionsRise = (history later : List Entry) (r s : List ℕ) (t : TableName)
    → (grant_edition (edits history) r s ≤ grant_edition (edits (history ++ later)) r s) × (binding_edition (edits history) t ≤ binding_edition (edits (history ++ later)) t)

-- two histories show a recipient the same: itself, its grants, its tables, and what is shown of the logs of these
pub record ShowsTheSame (history other : List Entry) (r : List ℕ) : Type 0 where
  pub recipient : credential (edits history) r ≡ credential (edits other) r
  pub grants : (s : List ℕ) → grant (edits history) r s ≡ grant (edits other) r s
  pub tables : (t : TableName) → shared (edits history) r t ≡ shared (edits other) r t
  pub logs : (t : TableName) (s : Spot) → shared (edits history) r t ≡ Some s → shown (log_at history) s ≡ shown (log_at other) s

-- Nothing else is in a view: other recipients, ungranted shares, files that a binding doesn't show, numbers of logs, who did what, and when, may all differ.
abbrev pub ViewsAreShown : Type 0
ViewsAreShown = (history other : List Entry) (r : List ℕ) → ShowsTheSame history other r → view_by history (named r) ≡ view_by other (named r)

-- an edit that names neither a recipient nor a share that it is granted
abbrev pub IsForeignEdit : List Entry → List ℕ → Edit → Type 0
IsForeignEdit history r x = (names_recipient r x ≡ false) × ((s : List ℕ) → names_share s x ≡ true → granted (edits history) r s ≡ false)

-- an entry that says nothing of a recipient, of a share that it is granted, or of the log of a table that it sees
pub record IsForeign (history : List Entry) (r : List ℕ) (e : Entry) : Type 0 where
  pub edit : IfSome (edit_in e) (IsForeignEdit history r)
  pub log : (t : TableName) (s : Spot) → shared (edits history) r t ≡ Some s → number_at history s.location ≢ Some e.log
  pub load : (t : TableName) (s : Spot) → shared (edits history) r t ≡ Some s → IfSome (start_in e) (λ l. l.location ≢ s.location)

-- Such an entry leaves the recipient's view.
abbrev pub ForeignEntriesLeaveViews : Type 0
ForeignEntriesLeaveViews = (history : List Entry) (e : Entry) (r : List ℕ) → IsForeign history r e → view_by (history ++ e ∷ []) (named r) ≡ view_by history (named r)

-- the token of the digest finds the recipient
abbrev pub Finds : List Entry → List ℕ → List ℕ → Type 0
Finds history digest r = name_of (edits history) (token digest) ≡ Some r

-- the recipient's credential now has the digest: an earlier one doesn't count
abbrev pub Holds : List Entry → List ℕ → List ℕ → Type 0
Holds history digest r = There (credential (edits history) r) (λ c. c.digest ≡ digest)

-- an edit that gives nobody a credential of the digest
abbrev pub GivesNobody : List ℕ → Edit → Type 0
GivesNobody digest x = (r : List ℕ) → IfSome (says_credential r x) (λ c. c.digest ≢ digest)

-- The same by a token. It finds who holds it now, so that one that was rotated away finds nobody; it shows what that recipient sees, and no more; a foreign entry leaves what it shows; and one that finds nobody finds nobody until it is given.
pub record TokensShowViews : Type 0 where
  pub holder : (history : List Entry) (digest r : List ℕ) → IsLegal history → (Finds history digest r → Holds history digest r) × (Holds history digest r → Finds history digest r)
  pub shown : (history other : List Entry) (digest r : List ℕ) → IsLegal history → IsLegal other → Finds history digest r → ShowsTheSame history other r → view_by history (token digest) ≡ view_by other (token digest)
  pub entries : (history : List Entry) (e : Entry) (digest r : List ℕ) → IsLegal (history ++ e ∷ []) → Finds history digest r → IsForeign history r e → view_by (history ++ e ∷ []) (token digest) ≡ view_by history (token digest)
  pub nobody : (history : List Entry) (e : Entry) (digest : List ℕ) → IsLegal (history ++ e ∷ []) → view_by history (token digest) ≡ None → IfSome (edit_in e) (GivesNobody digest) → view_by (history ++ e ∷ []) (token digest) ≡ None
