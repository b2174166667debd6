-- The server's configuration, as a function of the store's objects.
use Rattle.std.specs.Prelude.{ℕ, ◌^◌, List, Option, Some, None, Result, Ok, Err, length, nat_le, option_and_then, if◌then◌else◌, codes}
use Rattle.std.specs.FinMap as map
use Rattle.edge_core.specs.Objects.{Objects}
use Rattle.share_config.specs.Configuration.{config_in}
use Rattle.share_config.specs.declared.config.Config.{Config}
use Rattle.share_config.specs.declared.config_fault.ConfigFault.{ConfigFault}

-- the name of its object
abbrev pub config_name : List ℕ
config_name = codes "_share_log/config.json"

abbrev pub if_config : Result Config ConfigFault → Option Config
if_config (Ok config) = Some config
if_config (Err fault) = None

-- the configuration that an object's bytes state, none where they are more than 16 MiB or state none
abbrev pub config_of : List ℕ → Option Config
config_of bytes = if nat_le (length bytes) (2 ^ 24) then if_config (config_in bytes) else None

-- the configuration in a store with these objects, none where none has the name
abbrev pub config_at : Objects → Option Config
config_at objects = option_and_then config_of (map.get objects config_name)
