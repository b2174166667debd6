use Rattle.share_commands.proofs.Serving.{stored}
use Rattle.share_commands.proofs.opening.stored_config.Goals as goal

pub returns-in-Ok-clause-config : goal.returns-in-Ok-clause-config
returns-in-Ok-clause-config g c = stored _ c.in_ok-name.name c.in-Ok.fetched c.fetched_config.result c.in_ok-name.ensures c.in-Ok.ensures.object c.fetched_config.ensures.config
