use Rattle.std.proofs.Common.{◌≡◌, drop}
use Rattle.serde_json.specs.View.{items_view}
use Rattle.json_tree.proofs.Rest.{onto}
use Rattle.share_config.specs.Configuration.{digests_of}
use Rattle.share_config.proofs.config.digests_of.Given as goal

-- what is found, and the digests of what is left, are the digests of all
abbrev pub invariant-loop-value : goal.invariant-loop-value
invariant-loop-value l = onto l.digests.items (digests_of (items_view (drop l.value-index l.values))) ≡ digests_of (items_view l.values)
