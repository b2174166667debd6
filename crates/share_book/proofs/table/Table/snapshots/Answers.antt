use Rattle.std.proofs.Common.{subst}
use Rattle.share_book.specs.Bases.{AllStatesIn}
use Rattle.share_book.specs.TableView.{TableView}
use Rattle.share_book.proofs.table.Table.snapshots.Goals as goal

pub returns : goal.returns
returns c = subst (λ (t : TableView). AllStatesIn t.log.commits c.self.inside.snapshots) c.self.view_is c.self.invariant.states
