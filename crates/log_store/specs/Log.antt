-- The log of a table in a store, as a function of the store's objects (Delta Lake PROTOCOL.md, "Delta Log Entries").
use Rattle.std.specs.Prelude.{ℕ, ◌+◌, ◌^◌, ◌==◌, List, [], ◌∷◌, ◌++◌, filter_map, fold, min, max, slice_get, Option, Some, option_map, option_and_then, Result, Ok, Err, nat_lt, if◌then◌else◌}
use Rattle.std.specs.List.{range_with_len}
use Rattle.std.specs.Option.{option_map_or}
use Rattle.std.specs.Result.{result_ok}
use Rattle.std.specs.FinMap as finmap
use Rattle.edge_core.specs.Objects.{Objects, listing}
use Rattle.log_actions.specs.declared.actions.Action.{Action}
use Rattle.log_actions.specs.CommitTexts.{printed_bytes}
use Rattle.log_commit.specs.Names.{commit_name, folder, version_of}
use Rattle.log_commit.specs.Texts.{commit_in}
use Rattle.log_commit.specs.declared.faults.CommitFault.{CommitFault}
use Rattle.log_replay.specs.Support.{refusal_of}
use Rattle.log_store.specs.declared.loaded.Block.{Block}
use Rattle.log_store.specs.declared.loaded.BlockCause.{BlockCause}
use Rattle.log_store.specs.declared.loaded.BlockCause.TheVariants as cause
use Rattle.log_store.specs.declared.loaded.Loaded.{Loaded}

-- the versions that the names in the log's folder stand for
abbrev pub versions_in : List ℕ → Objects → List ℕ
versions_in location objects = filter_map version_of (listing (folder location) objects)

-- the version after the greatest of these, 0 where there is none
abbrev pub end_of : List ℕ → ℕ
end_of versions = fold (λ end v. max end (v + 1)) 0 versions

-- the least of these
abbrev pub least_of : List ℕ → ℕ
least_of [] = 0
least_of (v ∷ vs) = fold min v vs

-- the stored bytes of a version's commit
abbrev pub text_at : List ℕ → Objects → ℕ → Option (List ℕ)
text_at location objects version = finmap.get objects (commit_name location version)

-- a version's commit, where its bytes are the text of one
abbrev pub commit_at : List ℕ → Objects → ℕ → Option (List Action)
commit_at location objects version = option_and_then (λ bytes. result_ok (commit_in bytes)) (text_at location objects version)

-- the commits of the versions below one
abbrev pub commits_below : List ℕ → Objects → ℕ → List (List Action)
commits_below location objects version = filter_map (commit_at location objects) (range_with_len 0 version)

-- why a commit isn't kept after those before it: their printed texts with its own pass 64 MiB in sum, or else its version isn't read
abbrev pub cause_with : List (List Action) → List Action → Option BlockCause
cause_with before own = if nat_lt (2 ^ 26) (printed_bytes (before ++ own ∷ [])) then Some cause.TooLarge else option_map (λ r. cause.Replay r) (refusal_of (before ++ own ∷ []))

abbrev pub cause_read : List (List Action) → Result (List Action) CommitFault → Option BlockCause
cause_read before (Err fault) = Some (cause.Commit fault)
cause_read before (Ok own) = cause_with before own

-- why the commit of these bytes isn't kept after those before it
abbrev pub cause_of : List (List Action) → List ℕ → Option BlockCause
cause_of before bytes = cause_read before (commit_in bytes)

-- why a version that no name stands for isn't kept
abbrev pub missing : List ℕ → ℕ → BlockCause
missing versions version = if version == 0 then cause.NeedsCheckpoint (least_of versions) else cause.Gap

-- why a version isn't kept, none where it is
abbrev pub cause_at : List ℕ → Objects → ℕ → Option BlockCause
cause_at location objects version =
    option_map_or (cause_of (commits_below location objects version)) (text_at location objects version) (Some (missing (versions_in location objects) version))

-- the least version below an end that isn't kept, and why
abbrev pub block_below : List ℕ → Objects → ℕ → Option Block
block_below location objects end = slice_get (filter_map (λ v. option_map (λ c. record { version = v; cause = c }) (cause_at location objects v)) (range_with_len 0 end)) 0

-- what is kept of the versions below an end
abbrev pub log_below : List ℕ → Objects → ℕ → Loaded
log_below location objects end =
    let block = block_below location objects end in
    let commits = commits_below location objects (option_map_or (λ b. b.version) block end) in
    record { commits = commits; bytes = printed_bytes commits; block = block }

-- the log of the table at a location: versions 0 and on up to the first that isn't kept, which is the block where it or a later one is named
abbrev pub log_in : List ℕ → Objects → Loaded
log_in location objects = log_below location objects (end_of (versions_in location objects))
