use Rattle.std.proofs.Common.{drop}
use Rattle.serde_json.specs.View.{items_view}
use Rattle.share_client.proofs.Items.{Onto}
use Rattle.share_client.proofs.listing.read_items.Given as goal

abbrev pub invariant-loop-value : goal.invariant-loop-value
invariant-loop-value g l = Onto g.T.Listed.reads l.initial.found.items l.found.items (items_view l.values) (items_view (drop l.value-index l.values))
