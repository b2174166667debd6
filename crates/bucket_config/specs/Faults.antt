-- What a text that isn't read as JSON makes of it.
use Rattle.json_tree.specs.declared.tree.TreeFault.{TreeFault}
use Rattle.json_tree.specs.declared.tree.TreeFault.TheVariants as tree
use Rattle.bucket_config.specs.declared.config_fault.BucketConfigFault.{BucketConfigFault}
use Rattle.bucket_config.specs.declared.config_fault.BucketConfigFault.TheVariants as fault

abbrev pub config_tree_fault : TreeFault → BucketConfigFault
config_tree_fault tree.NotUtf8 = fault.NotJson
config_tree_fault tree.NotJson = fault.NotJson
config_tree_fault tree.NoMemory = fault.NoMemory
