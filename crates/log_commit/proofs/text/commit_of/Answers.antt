use Rattle.log_commit.proofs.Whole.{answer_text, text_gives, text_of}
use Rattle.log_commit.proofs.text.commit_of.Goals as goal

pub returns-clause-text : goal.returns-clause-text
returns-clause-text c = answer_text c.args.bytes.now c.read_commit.result c.read_commit.ensures

pub returns-clause-law : goal.returns-clause-law
returns-clause-law c = λ actions. (text_of c.args.bytes.now actions, text_gives c.args.bytes.now actions)
