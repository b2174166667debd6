-- What a command writes, to the output and to the notes.
use Rattle.std.specs.Prelude.{◌≡◌, ℕ, ◌⊎◌, List, Option, take}
use Rattle.std.specs.Io.KnownBytes.{append_known}
use Rattle.edge_core.specs.Faults.{Rose}
use Rattle.query_command.specs.Outside.{Outside}
use Rattle.query_command.specs.declared.ends.End.{End}
use Rattle.query_command.specs.declared.ends.End.TheVariants as ends

-- the text was written to the output
abbrev pub Writes : Outside → Outside → List ℕ → Type 0
Writes old new text = new.held ≡ append_known old.held text

abbrev pub WritesNothing : Outside → Outside → Type 0
WritesNothing old new = new.held ≡ old.held

-- the text was written to notes that held this, or a front of it where a write to them failed
abbrev pub IsNoted : (old new : Option (List ℕ)) → (before now : ℕ) → List ℕ → Type 0
IsNoted old new before now text = (new ≡ append_known old text) ⊎ (Rose before now × ((n : ℕ) × (new ≡ append_known old (take n text))))

abbrev pub Notes : Outside → Outside → List ℕ → Type 0
Notes old new text = IsNoted old.noted new.noted old.note_faults new.note_faults text

-- nothing but the output changed
abbrev pub LeavesRest : Outside → Outside → Type 0
LeavesRest old new = new ≡ record old { held = new.held; write_faults = new.write_faults }

-- the text was written whole, or a front of it where a write failed
abbrev pub Prints : List ℕ → Outside → Outside → End → Type 0
Prints text old new ends.Done = LeavesRest old new × Writes old new text
Prints text old new ends.WriteFault = LeavesRest old new × Rose old.write_faults new.write_faults × ((n : ℕ) × Writes old new (take n text))
Prints text old new other = ⊥

-- the text was written to the notes, and nothing else changed
pub record Tells (old new : Outside) (text : List ℕ) : Type 0 where
  pub notes : Notes old new text
  pub rest : new ≡ record old { noted = new.noted; note_faults = new.note_faults }
