-- What one run does to the outside, and why it ended so.
use Rattle.std.specs.Prelude.{◌≡◌, ℕ, List, Bool, true, false, take, Option, Some, None}
use Rattle.std.specs.Bool.{OnFalse, OnTrue}
use Rattle.edge_core.specs.Faults.{Rose}
use Rattle.edge_core.specs.Objects.{Grows}
use Rattle.query_command.specs.Answer.{QueryEnds}
use Rattle.query_command.specs.Ends.{note}
use Rattle.query_command.specs.Outside.{Outside}
use Rattle.query_command.specs.Writing.{Notes, Writes, WritesNothing}
use Rattle.query_command.specs.declared.ends.End.{End}
use Rattle.query_command.specs.declared.ends.End.TheVariants as ends
use Rattle.share_loop.specs.Summaries.{IsSummary}
use Rattle.share_commands.specs.Clients.{IsClient}
use Rattle.share_commands.specs.Serve.{IsServe}
use Rattle.share_commands.specs.Stdio.{IsStdio}
use Rattle.share_commands.specs.declared.words.Command.{Command}
use Rattle.share_commands.specs.declared.words.Command.TheVariants as command
use Rattle.share_commands.specs.declared.words.TheConstants.{HELP, VERSION}

-- The text that a command prints which looks at neither input nor store: a rehearsal the lines of a summary.
abbrev pub IsText : Option Command → List ℕ → Type 0
IsText (Some command.Help) text = text ≡ HELP.now
IsText (Some command.Version) text = text ≡ VERSION.now
IsText (Some (command.Rehearse number)) text = IsSummary text
IsText _ text = ⊥

-- Why a run of such a command ends so, or one of words that are no command, and what it has written to the output then. Want of memory needs no cause.
abbrev pub TextEnds : Option Command → Outside → Outside → End → Type 0
TextEnds asked old new ends.Words = (asked ≡ None) × WritesNothing old new
TextEnds asked old new ends.WriteFault = Rose old.write_faults new.write_faults × ((text : List ℕ) × IsText asked text × ((n : ℕ) × Writes old new (take n text)))
TextEnds asked old new ends.NoMemory = WritesNothing old new
TextEnds asked old new ends.Done = (text : List ℕ) × IsText asked text × Writes old new text
TextEnds asked old new other = ⊥

abbrev pub is_stdio : Option Command → Bool
is_stdio (Some command.Stdio) = true
is_stdio _ = false

-- why a run of the command ends so, and what it did
abbrev pub Because : Option Command → Outside → Outside → End → Type 0
Because (Some command.Stdio) old new end = IsStdio old new end
Because (Some (command.Serve port workers)) old new end = IsServe old new end
Because (Some (command.Client name call_words)) old new end = IsClient name call_words old new end
Because (Some (command.Query location)) old new end = QueryEnds location old new end
Because asked old new end = TextEnds asked old new end

-- One run of the command: why it ended so, what it noted, and that nothing was stored but by a session. What workers store they store by their desks' stores.
pub record IsRun (asked : Option Command) (old new : Outside) (end : End) : Type 0 where
  pub means : Because asked old new end
  pub notes : Notes old new (note end)
  pub grows : Grows old.objects new.objects
  pub same : OnFalse (is_stdio asked) (OnTrue old.alone (new.objects ≡ old.objects))
  pub stored : OnFalse (is_stdio asked) (new.stored ≡ old.stored)
