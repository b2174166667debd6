use Rattle.std.proofs.Common.{arith}
use Rattle.log_commit.proofs.NameLemmas.{short_answer}
use Rattle.log_commit.proofs.names.name_of.Goals as goal

pub returns-clause-short : goal.returns-clause-short
returns-clause-short c = short_answer c.args.location.now c.args.version c.commit_name.result (omega arith) c.commit_name.ensures
