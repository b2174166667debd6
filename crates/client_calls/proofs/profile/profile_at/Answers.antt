use Rattle.client_calls.proofs.Fetching.{stored}
use Rattle.client_calls.proofs.profile.profile_at.Goals as goal

pub returns-in-Ok-clause-profile : goal.returns-in-Ok-clause-profile
returns-in-Ok-clause-profile g c = stored _ c.args.name.now c.in-Ok.fetched c.fetched_profile.result c.in-Ok.ensures.object c.fetched_profile.ensures.profile
