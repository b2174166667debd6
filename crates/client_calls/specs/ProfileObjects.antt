-- A recipient's profile (Delta Sharing PROTOCOL.md, "Profile File Format"), as a function of a store's objects.
use Rattle.std.specs.Prelude.{ℕ, ◌^◌, List, Option, Some, None, Result, Ok, Err, length, nat_le, option_and_then, if◌then◌else◌}
use Rattle.std.specs.FinMap as map
use Rattle.edge_core.specs.Objects.{Objects}
use Rattle.share_config.specs.Profiles.{profile_in}
use Rattle.share_config.specs.declared.profile.Profile.{Profile}
use Rattle.share_config.specs.declared.profile_fault.ProfileFault.{ProfileFault}

abbrev pub if_profile : Result Profile ProfileFault → Option Profile
if_profile (Ok profile) = Some profile
if_profile (Err fault) = None

-- the profile that an object's bytes state, none where they are more than 16 MiB or state none
abbrev pub profile_of : List ℕ → Option Profile
profile_of bytes = if nat_le (length bytes) (2 ^ 24) then if_profile (profile_in bytes) else None

-- the profile of that name in a store with these objects, none where none has the name
abbrev pub profile_at : (name : List ℕ) → Objects → Option Profile
profile_at name objects = option_and_then profile_of (map.get objects name)
