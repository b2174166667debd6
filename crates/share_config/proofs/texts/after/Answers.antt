use Rattle.share_config.proofs.Ends.{strips_front}
use Rattle.share_config.proofs.texts.after.Goals as goal

pub returns : goal.returns
returns c = strips_front c.args.front.now c.args.text.now c.strip_prefix.result c.strip_prefix.ensures.cases
