use Rattle.bucket_config.proofs.Ends.{strips_end}
use Rattle.bucket_config.proofs.words.before.Goals as goal

pub returns : goal.returns
returns c = strips_end c.args.end.now c.args.text.now c.strip_suffix.result c.strip_suffix.ensures.cases
