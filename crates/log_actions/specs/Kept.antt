-- What the types of an action's fields keep.
use Rattle.std.specs.Prelude.{◌^◌, ◌<◌, ℤ, Option, IfSome, FitsSigned}
use Rattle.std.specs.Int.{w64}
use Rattle.json_tree.specs.Pairs.{IsPairs}
use Rattle.log_actions.specs.Ranges.{times_end}
use Rattle.log_actions.specs.declared.actions.Action.{Action}
use Rattle.log_actions.specs.declared.actions.Action.TheVariants as action
use Rattle.log_actions.specs.declared.actions.AddFile.{AddFile}
use Rattle.log_actions.specs.declared.actions.RemoveFile.{RemoveFile}
use Rattle.log_actions.specs.declared.actions.Protocol.{Protocol}
use Rattle.log_actions.specs.declared.actions.MetaData.{MetaData}
use Rattle.log_actions.specs.declared.actions.CdcFile.{CdcFile}
use Rattle.log_actions.specs.declared.actions.Txn.{Txn}
use Rattle.log_actions.specs.declared.actions.CommitInfo.{CommitInfo}

-- a whole number of 64 bits, where there is one
abbrev pub AreWhole : Option ℤ → Type 0
AreWhole o = IfSome o (FitsSigned w64)

pub record KeptProtocol (p : Protocol) : Type 0 where
  pub reader : p.min_reader < 2 ^ 31
  pub writer : p.min_writer < 2 ^ 31

pub record KeptMetaData (m : MetaData) : Type 0 where
  pub options : IsPairs m.format.options
  pub configuration : IsPairs m.configuration
  pub created : AreWhole m.created

pub record KeptAdd (f : AddFile) : Type 0 where
  pub values : IsPairs f.values
  pub size : f.size < 2 ^ 63
  pub modified : FitsSigned w64 f.modified
  pub tags : IfSome f.tags IsPairs

pub record KeptRemove (f : RemoveFile) : Type 0 where
  pub deleted : AreWhole f.deleted
  pub values : IfSome f.values IsPairs
  pub size : IfSome f.size (λ n. n < 2 ^ 63)

pub record KeptCdc (f : CdcFile) : Type 0 where
  pub values : IsPairs f.values
  pub size : f.size < 2 ^ 63

pub record KeptTxn (t : Txn) : Type 0 where
  pub version : FitsSigned w64 t.version
  pub updated : AreWhole t.updated

abbrev pub KeptCommitInfo : CommitInfo → Type 0
KeptCommitInfo i = IfSome i.timestamp (λ n. n < times_end)

abbrev pub Kept : Action → Type 0
Kept (action.Protocol p) = KeptProtocol p
Kept (action.MetaData m) = KeptMetaData m
Kept (action.Add f) = KeptAdd f
Kept (action.Remove f) = KeptRemove f
Kept (action.Cdc f) = KeptCdc f
Kept (action.Txn t) = KeptTxn t
Kept (action.CommitInfo i) = KeptCommitInfo i
