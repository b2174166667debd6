-- Why an offer isn't admitted: the first of twelve conflicts, each with the least version or action that shows it (own; the order follows Delta Lake's optimistic concurrency, PROTOCOL.md, "Delta Log Entries").
use Rattle.std.specs.Prelude.{◌≡◌, ℕ, ◌-◌, ◌^◌, ◌==◌, ◌&&◌, ◌||◌, not, List, [], ◌∷◌, ◌++◌, Bool, true, false, Option, Some, None, Result, Ok, Err, ⊤, is_none, is_some, option_map, unwrap_or, length, nat_lt, nat_le, codes, bytes_eq, if◌then◌else◌}
use Rattle.std.specs.List.{list_all, list_any, position_from}
use Rattle.std.specs.Option.{option_map_or, option_or}
use Rattle.log_actions.specs.Commits.{is_meta_data, is_protocol}
use Rattle.log_actions.specs.CommitTexts.{commit_text}
use Rattle.log_actions.specs.Paths.{name_under}
use Rattle.log_actions.specs.declared.actions.Action.{Action}
use Rattle.log_actions.specs.declared.actions.Action.TheVariants as action
use Rattle.log_actions.specs.declared.actions.MetaData.{MetaData}
use Rattle.log_actions.specs.declared.actions.Protocol.{Protocol}
use Rattle.log_commit.specs.Rules.{broken_rule}
use Rattle.log_replay.specs.Reconciliation.{actions_in, last_meta, last_protocol}
use Rattle.log_replay.specs.State.{State}
use Rattle.log_actions.specs.Printing.{has_vector}
use Rattle.log_replay.specs.Support.{refusal_of}
use Rattle.commit_check.specs.Lawful.{is_append_only, is_info, is_live}
use Rattle.commit_check.specs.Offers.{commit_with, read_state}
use Rattle.commit_check.specs.Winners.{adds_read, adds_same, changes_read, first_winner, has_app_of, removes_same}
use Rattle.commit_check.specs.declared.conflict.Conflict.{Conflict}
use Rattle.commit_check.specs.declared.conflict.Conflict.TheVariants as conflict
use Rattle.commit_check.specs.declared.conflict.NotAdmitted.{NotAdmitted}
use Rattle.commit_check.specs.declared.conflict.NotAdmitted.TheVariants as not_admitted
use Rattle.commit_check.specs.declared.offer.Offer.{Offer}

-- ---- what the offer itself shows

-- the last version of a log of so many
abbrev pub last_of : ℕ → Option ℕ
last_of versions = if nat_lt 0 versions then Some (versions - 1) else None

-- the version that was read isn't among so many
abbrev pub read_ahead : ℕ → Option ℕ → Option Conflict
read_ahead versions None = None
read_ahead versions (Some version) = if nat_lt version versions then None else Some (conflict.ReadAhead (last_of versions))

-- "Valid Feature Names in Table Features"
abbrev pub known_writer_features : List (List ℕ)
known_writer_features =
    codes "appendOnly" ∷ codes "invariants" ∷ codes "checkConstraints" ∷ codes "changeDataFeed" ∷ codes "generatedColumns" ∷ codes "timestampNtz" ∷ codes "vacuumProtocolCheck" ∷ []

abbrev pub is_known_feature : List ℕ → Bool
is_known_feature feature = list_any (bytes_eq feature) known_writer_features

-- whether a table of this protocol is written ("Writer Version Requirements")
abbrev pub is_written : Protocol → Bool
is_written p = nat_le p.min_writer 4 || (p.min_writer == 7 && list_all is_known_feature (unwrap_or p.writer_features []))

-- whether the protocol, if it is one, is that of a table that is written
abbrev pub keeps_written : Action → Bool
keeps_written (action.Protocol p) = is_written p
keeps_written _ = true

-- the protocol that holds, and those that are offered, are such
abbrev pub stays_written : Option Protocol → List Action → Bool
stays_written p offered = option_map_or is_written p true && list_all keeps_written offered

abbrev pub unwritten : Option Protocol → List Action → Option Conflict
unwritten p offered = if stays_written p offered then None else Some conflict.WriterUnsupported

abbrev pub path_of : Action → Option (List ℕ)
path_of (action.Add f) = Some f.path
path_of (action.Remove f) = Some f.path
path_of (action.Cdc f) = Some f.path
path_of _ = None

abbrev pub has_no_name : List ℕ → Option (List ℕ) → Bool
has_no_name location None = false
has_no_name location (Some path) = is_none (name_under location path)

-- a commitInfo, a file without a name below the table, or a deletion vector
abbrev pub is_unfit : List ℕ → Action → Bool
is_unfit location a = is_info a || (has_vector a || has_no_name location (path_of a))

-- an action that an offer can't have after those before it
abbrev pub is_bad : List ℕ → List Action → Action → Bool
is_bad location before a = is_unfit location a || is_some (broken_rule 1 before a)

-- the place of the first such action, after those in front
abbrev pub first_bad : List ℕ → List Action → List Action → Option ℕ
first_bad location front [] = None
first_bad location front (a ∷ actions) = if is_bad location front a then Some (length front) else first_bad location (front ++ a ∷ []) actions

-- a table is begun without a protocol or a metaData
abbrev pub begins_badly : Option ℕ → List Action → Bool
begins_badly read offered = is_none read && not (list_any is_protocol offered && list_any is_meta_data offered)

abbrev pub is_long : List Action → Bool
is_long commit = nat_lt (2 ^ 24) (length (commit_text commit))

-- the whole is no commit of the log: it gives no state that is read, begins a table badly, or has a text of more than 16 MiB
abbrev pub is_bad_whole : List (List Action) → ℕ → Offer → Bool
is_bad_whole log now offer =
    is_some (refusal_of (log ++ commit_with now offer.actions ∷ [])) || (begins_badly offer.read offer.actions || is_long (commit_with now offer.actions))

abbrev pub whole_place : List (List Action) → ℕ → Offer → Option ℕ
whole_place log now offer = if is_bad_whole log now offer then Some (length offer.actions) else None

abbrev pub bad_place : List (List Action) → ℕ → Offer → Option ℕ
bad_place log now offer = option_or (first_bad offer.location [] offer.actions) (whole_place log now offer)

abbrev pub bad_offer : List (List Action) → ℕ → Offer → Option Conflict
bad_offer log now offer = option_map (λ n. conflict.BadOffer n) (bad_place log now offer)

abbrev pub removes_data : Action → Bool
removes_data (action.Remove f) = f.data_change
removes_data _ = false

-- "Append-only Tables"
abbrev pub takes_data : Option MetaData → List Action → Bool
takes_data m offered = is_append_only m && list_any removes_data offered

abbrev pub appends_only : Option MetaData → List Action → Option Conflict
appends_only m offered = if takes_data m offered then Some conflict.AppendOnly else None

abbrev pub is_live_at : Option State → List ℕ → Bool
is_live_at None path = false
is_live_at (Some state) path = is_live state.files path

abbrev pub removes_absent : Option State → Action → Bool
removes_absent state (action.Remove f) = not (is_live_at state f.path)
removes_absent state _ = false

-- an action removes a path that wasn't live at the version that was read
abbrev pub absent : Option State → List Action → Option Conflict
absent state offered = option_map (λ n. conflict.RemoveAbsent n) (position_from (removes_absent state) 0 offered)

-- the first of these
abbrev pub own_conflict : List (List Action) → ℕ → Offer → Option Conflict
own_conflict log now offer =
    option_or (read_ahead (length log) offer.read)
    (option_or (unwritten (last_protocol (actions_in log)) offer.actions)
    (option_or (bad_offer log now offer)
    (option_or (appends_only (last_meta (actions_in log)) offer.actions)
    (absent (read_state log offer.read) offer.actions))))

-- ---- what the winning commits show

abbrev pub won : (ℕ → Conflict) → (Action → Bool) → List (List Action) → Option ℕ → Option Conflict
won told test log read = option_map told (first_winner test log read)

abbrev pub winners_conflict : List (List Action) → Option State → Offer → Option Conflict
winners_conflict log state offer =
    option_or (won (λ v. conflict.ProtocolChanged v) is_protocol log offer.read)
    (option_or (won (λ v. conflict.MetadataChanged v) is_meta_data log offer.read)
    (option_or (won (λ v. conflict.ConcurrentTransaction v) (has_app_of offer.actions) log offer.read)
    (option_or (won (λ v. conflict.ConcurrentDeleteDelete v) (removes_same offer.actions) log offer.read)
    (option_or (won (λ v. conflict.ConcurrentAddAdd v) (adds_same offer.actions) log offer.read)
    (option_or (won (λ v. conflict.ConcurrentDeleteRead v) (changes_read offer.reads state) log offer.read)
    (won (λ v. conflict.ConcurrentAppend v) (adds_read offer.reads state) log offer.read))))))

-- ---- the answer

-- the first conflict of an offer
abbrev pub conflict_of : List (List Action) → ℕ → Offer → Option Conflict
conflict_of log now offer = option_or (own_conflict log now offer) (winners_conflict log (read_state log offer.read) offer)

abbrev pub unless_conflict : Option Conflict → List Action → Result (List Action) Conflict
unless_conflict None commit = Ok commit
unless_conflict (Some c) commit = Err c

-- the commit of an offer, or the first conflict
abbrev pub admitted : List (List Action) → ℕ → Offer → Result (List Action) Conflict
admitted log now offer = unless_conflict (conflict_of log now offer) (commit_with now offer.actions)

-- The answer is this commit or conflict. Want of memory says nothing.
abbrev pub Answers : Result (List Action) NotAdmitted → Result (List Action) Conflict → Type 0
Answers (Ok commit) what = what ≡ Ok commit
Answers (Err (not_admitted.Conflict c)) what = what ≡ Err c
Answers (Err not_admitted.NoMemory) what = ⊤
