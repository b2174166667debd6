-- What is known of a table's log on which was begun.
use Rattle.std.proofs.Common.{◌≡◌, ℕ, [], Option, Some, None, sym, ◌∙◌}
use Rattle.std.proofs.lemmas.List.{append-nil}
use Rattle.log_replay.specs.Standing.{Standing, standing_of}
use Rattle.share_book.specs.Bases.{MakesHead}
use Rattle.share_book.specs.History.{open_on, table_on}
use Rattle.share_book.specs.Legal.{There}
use Rattle.share_book.specs.TableView.{TableLog}
use Rattle.share_book.specs.declared.replay.Replay.{Replay}
use Rattle.share_book.specs.declared.table.LogState.{LogState}
use Rattle.share_book.proofs.Bookkeeping.{there_at}
use Rattle.hub_calls.specs.Calls.{P}
use Rattle.hub_tables.specs.RefreshRounds.{OpensOn}
use Rattle.hub_tables.specs.TableCalls.{GoesOn}
use Rattle.hub_tables.specs.TableRounds.{HoldsHead}
use Rattle.hub_tables.proofs.CommitSteps.{same_table}
use Rattle.hub_tables.proofs.TablePasses.{adds_then, with_none}

-- nothing was found in two calls
pub goes_again : (p q r : P) (j : ℕ) → GoesOn p q j [] → GoesOn q r j [] → GoesOn p r j []
goes_again p q r j a b = record { added = adds_then p q r [] [] a.added b.added; holder = b.holder; table = same_table q r j b ∙ a.table }

pub goes_none : (p : P) (j : ℕ) → open_on j p.seen ≡ Some p.number → GoesOn p p j []
goes_none p j o = record { added = sym (append-nil _); holder = o; table = with_none (table_on j p.seen) }

-- what is known of the log on which was begun
pub head_held : (p q : P) (j : ℕ) (s : LogState) (support : Standing) (o : OpensOn p j s) → s.block ≡ None → GoesOn p q j [] → support ≡ standing_of o.log.commits
    → HoldsHead q j (record { support = support; bytes = s.bytes })
head_held p q j s support o free g stands = record {
  log = o.log;
  holds = record { log = o.holds.log; holder = g.holder; table = same_table p q j g ∙ o.holds.table };
  free = sym o.state.block ∙ free;
  head = record { kept = o.kept; stands = stands; counted = o.state.bytes };
}

-- what makes the head of the log on which was begun
pub makes_there : (p : P) (j : ℕ) (s : LogState) (o : OpensOn p j s) (r : Option Replay) → There (table_on j p.seen) (λ t. MakesHead t.commits r) → MakesHead o.log.commits r
makes_there p j s o r w = there_at (table_on j p.seen) o.log (λ (t : TableLog). MakesHead t.commits r) o.holds.table w
