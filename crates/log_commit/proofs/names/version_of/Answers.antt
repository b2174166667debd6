use Rattle.log_commit.proofs.Segments.{found_is, none_is}
use Rattle.log_commit.proofs.names.version_of.Goals as goal

pub returns-clause-found : goal.returns-clause-found
returns-clause-found c = found_is c.args.segment.now c.version_of_bytes.result (rw c.as_bytes.ensures.value at c.version_of_bytes.ensures)

pub returns-clause-none : goal.returns-clause-none
returns-clause-none c = none_is c.args.segment.now c.version_of_bytes.result (rw c.as_bytes.ensures.value at c.version_of_bytes.ensures)
