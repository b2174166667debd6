use Rattle.std.proofs.Common.{refl}
use Rattle.share_commands.proofs.client.profile_of.Goals as goal

pub returns-clause-looks : goal.returns-clause-looks
returns-clause-looks g c = rw (← c.edge.view_is) (record { rest = refl; looked = c.stored_profile.ensures.looked; later = c.stored_profile.ensures.later; stored = c.stored_profile.ensures.stored })
