-- What one command does, before it is told how it ended.
use Rattle.std.specs.Prelude.{◌≡◌, Option}
use Rattle.std.specs.Bool.{OnFalse, OnTrue}
use Rattle.edge_core.specs.Objects.{Grows}
use Rattle.query_command.specs.Outside.{Outside}
use Rattle.query_command.specs.declared.ends.End.{End}
use Rattle.share_commands.specs.Run.{Because, is_stdio}
use Rattle.share_commands.specs.declared.words.Command.{Command}

-- One run of the command: why it ended so, that nothing was stored but by a session, and nothing is noted yet.
pub record Runs (asked : Option Command) (old new : Outside) (end : End) : Type 0 where
  pub means : Because asked old new end
  pub notes : new.noted ≡ old.noted
  pub note_faults : new.note_faults ≡ old.note_faults
  pub grows : Grows old.objects new.objects
  pub same : OnFalse (is_stdio asked) (OnTrue old.alone (new.objects ≡ old.objects))
  pub stored : OnFalse (is_stdio asked) (new.stored ≡ old.stored)
