-- What a whole text that isn't read as JSON makes of a configuration and of a profile.
use Rattle.json_tree.specs.declared.tree.TreeFault.{TreeFault}
use Rattle.json_tree.specs.declared.tree.TreeFault.TheVariants as tree
use Rattle.share_config.specs.declared.config_fault.ConfigFault.{ConfigFault}
use Rattle.share_config.specs.declared.config_fault.ConfigFault.TheVariants as config
use Rattle.share_config.specs.declared.profile_fault.ProfileFault.{ProfileFault}
use Rattle.share_config.specs.declared.profile_fault.ProfileFault.TheVariants as profile

abbrev pub config_tree_fault : TreeFault → ConfigFault
config_tree_fault tree.NotUtf8 = config.NotJson
config_tree_fault tree.NotJson = config.NotJson
config_tree_fault tree.NoMemory = config.NoMemory

abbrev pub profile_tree_fault : TreeFault → ProfileFault
profile_tree_fault tree.NotUtf8 = profile.NotJson
profile_tree_fault tree.NotJson = profile.NotJson
profile_tree_fault tree.NoMemory = profile.NoMemory
