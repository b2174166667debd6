use Rattle.share_commands.proofs.Calling.{profile_found, profile_unread}
use Rattle.share_commands.proofs.client.stored_profile.Goals as goal

pub returns-in-Err-clause-profile : goal.returns-in-Err-clause-profile
returns-in-Err-clause-profile g c = rw (c.unread.ensures) (profile_unread c.args.name.now c.in-Err.refusal _ _ _ _ c.in-Err.ensures.cause)

pub returns-clause-profile : goal.returns-clause-profile
returns-clause-profile g c = rw (c.if_found.ensures) (profile_found c.args.name.now c.in-Ok.found _ _ _ _ c.in-Ok.ensures.looked.grows c.in-Ok.ensures.profile)
