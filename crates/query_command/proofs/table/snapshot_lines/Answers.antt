use Rattle.std.proofs.Common.{subst}
use Rattle.pred_tree.specs.Listing.{IsFilter, pred_by}
use Rattle.query_command.proofs.Tables.{state_lines_by}
use Rattle.query_command.proofs.table.snapshot_lines.Goals as goal

pub returns : goal.returns
returns c =
    let is = subst (λ m. IsFilter (pred_by c.args.hint.now) m c.in_ok-listing.listing) c.meta.ensures c.in_ok-listing.ensures in
    state_lines_by c.args.hint.now c.args.snapshot.now c.in_ok-listing.listing c.lines_under.result is c.lines_under.ensures
