use Rattle.share_commands.proofs.Added.{serve_stands, stdio_stands}
use Rattle.share_commands.proofs.law.what_runs_add_stands.Goals as goal

pub returns-clause-stdio : goal.returns-clause-stdio
returns-clause-stdio g c = stdio_stands c.what_is_added_stands.ensures

pub returns-clause-serve : goal.returns-clause-serve
returns-clause-serve g c = serve_stands _ _ _ _ _ _ _ _ _ _ c.what_workers_add_stands.ensures
