-- The server of a profile (Delta Sharing PROTOCOL.md, "Profile File Format").
use Rattle.std.specs.Prelude.{Option, option_map}
use Rattle.share_config.specs.declared.profile.Profile.{Profile}
use Rattle.share_client.specs.Targets.{target_in}
use Rattle.share_client.specs.declared.server.Server.{Server}

abbrev pub server_in : Profile → Option Server
server_in p = option_map (λ target. record { target = target; bearer = p.bearer }) (target_in p.endpoint)
