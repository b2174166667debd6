use Rattle.std.specs.Option.{option_map}
use Rattle.share_book.proofs.Latest.{IsLatest}
use Rattle.share_book.proofs.snapshots.Snapshots.latest.Given as goal

abbrev pub invariant-loop-state : goal.invariant-loop-state
invariant-loop-state l = IsLatest l.self l.state-iterator l.version (option_map (λ s. s.now) l.best)
