use Rattle.std.proofs.Common.{◌+◌, take, refl}
use Rattle.query_command.proofs.Tables.{at_version}
use Rattle.query_command.proofs.table.commit_lines.Goals as goal

pub returns-clause-lines : goal.returns-clause-lines
returns-clause-lines g c =
    at_version c.args.query.now.hint c.args.commits.now (take (c.in_ok-version.version + 1) c.args.commits.now) _ c.in_ok-version.version c.replayed_lines.result c.in_ok-version.ensures.version refl c.replayed_lines.ensures.lines
