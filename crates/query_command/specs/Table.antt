-- The lines of a query's answer, as a function of the store's objects.
use Rattle.std.specs.Prelude.{ℕ, ◌+◌, List, ◌++◌, flat_map, take, Option, Some, None, Result, Ok, Err, false}
use Rattle.edge_core.specs.Objects.{Objects}
use Rattle.log_actions.specs.declared.actions.Action.{Action}
use Rattle.log_actions.specs.declared.actions.AddFile.{AddFile}
use Rattle.log_replay.specs.State.{State, state_of}
use Rattle.log_replay.specs.Times.{marks_in, resolved}
use Rattle.log_replay.specs.declared.times.Unresolved.{Unresolved}
use Rattle.log_replay.specs.declared.times.Unresolved.TheVariants as unresolved
use Rattle.log_replay.specs.declared.refusal.ReplayRefusal.{ReplayRefusal}
use Rattle.log_replay.specs.declared.refusal.ReplayRefusal.TheVariants as replay
use Rattle.log_store.specs.Log.{log_in}
use Rattle.log_store.specs.declared.loaded.Loaded.{Loaded}
use Rattle.log_store.specs.declared.loaded.Block.{Block}
use Rattle.log_store.specs.declared.loaded.BlockCause.{BlockCause}
use Rattle.log_store.specs.declared.loaded.BlockCause.TheVariants as cause
use Rattle.share_lines.specs.Lines.{protocol_line, meta_line, file_line}
use Rattle.pred_tree.specs.Listing.{listed, pred_by}
use Rattle.query_body.specs.declared.query.QueryBody.{QueryBody}
use Rattle.query_command.specs.Query.{bound_of}
use Rattle.query_command.specs.declared.ends.TableRefusal.{TableRefusal}
use Rattle.query_command.specs.declared.ends.TableRefusal.TheVariants as table

-- the live files that the predicate doesn't make False, in byte order of path
abbrev pub listed_files : Option (List ℕ) → State → List AddFile
listed_files hint state = listed (pred_by hint) state.meta state.files

-- protocol, metaData, and the files that are listed
abbrev pub state_lines : Option (List ℕ) → State → List ℕ
state_lines hint state = protocol_line ++ meta_line state.meta ++ flat_map file_line (listed_files hint state)

-- the version that isn't supported
abbrev pub unsupported_version : ReplayRefusal → ℕ
unsupported_version replay.NoProtocol = 0
unsupported_version replay.NoMetaData = 0
unsupported_version (replay.Unsupported version cause) = version

abbrev pub refusal_by : ℕ → BlockCause → TableRefusal
refusal_by version (cause.NeedsCheckpoint lowest) = table.NeedsCheckpoint lowest
refusal_by version cause.Gap = table.Gap version
refusal_by version (cause.Commit fault) = table.Commit version
refusal_by version (cause.Replay refusal) = table.Unsupported version
refusal_by version cause.TooLarge = table.TooLarge version

-- why a log that ends at a block isn't read
abbrev pub block_refusal : Block → TableRefusal
block_refusal block = refusal_by block.version block.cause

abbrev pub lines_of_state : Option (List ℕ) → Result State ReplayRefusal → Result (List ℕ) TableRefusal
lines_of_state hint (Ok state) = Ok (state_lines hint state)
lines_of_state hint (Err refused) = Err (table.Unsupported (unsupported_version refused))

-- why a version isn't answered of a log without a block
abbrev pub unresolved_by : Unresolved → TableRefusal
unresolved_by unresolved.Unsupported = table.NoCommits
unresolved_by unresolved.VersionRange = table.VersionRange
unresolved_by unresolved.TimestampRange = table.TimestampRange

-- the lines at the version that was meant
abbrev pub lines_at : Option (List ℕ) → List (List Action) → Result ℕ Unresolved → Result (List ℕ) TableRefusal
lines_at hint commits (Ok version) = lines_of_state hint (state_of (take (version + 1) commits))
lines_at hint commits (Err refused) = Err (unresolved_by refused)

-- the lines of a log without a block
abbrev pub lines_of_commits : QueryBody → List (List Action) → Result (List ℕ) TableRefusal
lines_of_commits query commits = lines_at query.hint commits (resolved (marks_in commits) false (bound_of query))

abbrev pub lines_under : QueryBody → Option Block → List (List Action) → Result (List ℕ) TableRefusal
lines_under query None commits = lines_of_commits query commits
lines_under query (Some block) commits = Err (block_refusal block)

abbrev pub lines_of_log : QueryBody → Loaded → Result (List ℕ) TableRefusal
lines_of_log query log = lines_under query log.block log.commits

-- the lines of the table that answer the query, or why there are none
abbrev pub lines_in : List ℕ → QueryBody → Objects → Result (List ℕ) TableRefusal
lines_in location query objects = lines_of_log query (log_in location objects)
