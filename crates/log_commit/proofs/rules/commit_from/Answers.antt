use Rattle.log_commit.proofs.CommitRules.{from_commit, from_gives}
use Rattle.log_commit.proofs.rules.commit_from.Goals as goal

pub returns-clause-law : goal.returns-clause-law
returns-clause-law c = (from_gives c.args.actions, from_commit c.args.actions)
