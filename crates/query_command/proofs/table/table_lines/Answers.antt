use Rattle.query_command.proofs.Tables.{of_loaded}
use Rattle.query_command.proofs.table.table_lines.Goals as goal

pub returns-clause-table : goal.returns-clause-table
returns-clause-table g c =
    of_loaded (g.W.Store.objects c.args.store.now) (g.W.Store.objects c.load.new.store) c.args.location.now c.args.query.now c.in_ok-log.log c.log_lines.result c.in_ok-log.ensures.log c.log_lines.ensures.lines
