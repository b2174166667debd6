-- A client's profile.
use Rattle.share_config.specs.declared.profile.Profile.{Profile}
use Rattle.share_client.specs.declared.client.Client.{Client}

abbrev pub client_profile : Client → Profile
client_profile c = c.profile
