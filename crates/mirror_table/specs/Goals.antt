-- What a mirror of a shared table is to have at one version of that table.
use Rattle.std.specs.Prelude.{◌≡◌, ℕ, ℤ, pos, ◌++◌, ◌&&◌, List, Bool, true, codes, bytes_eq, map}
use Rattle.std.specs.List.{list_any}
use Rattle.std.specs.Ordering.{int_eq}
use Rattle.log_actions.specs.declared.actions.Action.TheVariants as action
use Rattle.log_actions.specs.declared.actions.AddFile.{AddFile}
use Rattle.log_actions.specs.declared.actions.MetaData.{MetaData}
use Rattle.log_actions.specs.declared.actions.Protocol.{Protocol}
use Rattle.log_actions.specs.declared.actions.Txn.{Txn}
use Rattle.log_replay.specs.Reconciliation.{live_files}
use Rattle.log_replay.specs.State.{State}
use Rattle.mirror_table.specs.declared.shared.Shared.{Shared}

-- the application by which a mirror says how far it has come ("Transaction Identifiers"), and that table's version, protocol, metaData, and live files in byte order of path
pub record Goal : Type 0 where
  pub app : List ℕ
  pub version : ℕ
  pub protocol : Protocol
  pub meta : MetaData
  pub files : List AddFile

-- the application of the mirror of a table
abbrev pub app_of : List ℕ → List ℕ → List ℕ → List ℕ
app_of share schema table = codes "delta-sharing " ++ share ++ codes "." ++ schema ++ codes "." ++ table

-- files in byte order of path: those that are live in a log that adds them
abbrev pub in_order : List AddFile → List AddFile
in_order files = live_files (map (λ f. action.Add f) files)

-- the goal of what is shared
abbrev pub goal_of : Shared → Goal
goal_of s = record { app = s.app.now; version = s.version; protocol = s.protocol.now; meta = s.meta.now; files = in_order (map (λ f. f.now) s.files.now) }

-- a txn of the application with the version
abbrev pub is_mark : Goal → Txn → Bool
is_mark g t = bytes_eq t.app g.app && int_eq t.version (pos g.version)

-- a state has the goal's protocol, metaData and files, no others, and its txn
pub record Mirrors (s : State) (g : Goal) : Type 0 where
  pub protocol : s.protocol ≡ g.protocol
  pub meta : s.meta ≡ g.meta
  pub files : s.files ≡ g.files
  pub mark : list_any (is_mark g) s.txns ≡ true
