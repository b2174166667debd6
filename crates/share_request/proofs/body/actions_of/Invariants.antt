use Rattle.std.proofs.Common.{◌≡◌, drop}
use Rattle.json_tree.proofs.Rest.{onto}
use Rattle.serde_json.specs.View.{items_view}
use Rattle.share_request.specs.Bodies.{actions_of}
use Rattle.share_request.proofs.body.actions_of.Given as goal

-- what is found, and the actions of what is left, are the actions of all
abbrev pub invariant-loop-value : goal.invariant-loop-value
invariant-loop-value l = onto l.items.items (actions_of (items_view (drop l.value-index l.values))) ≡ actions_of (items_view l.values)
