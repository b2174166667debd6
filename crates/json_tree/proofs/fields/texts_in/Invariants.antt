use Rattle.std.proofs.Common.{◌≡◌, drop}
use Rattle.json_tree.specs.Fields.{texts_of}
use Rattle.serde_json.specs.View.{items_view}
use Rattle.json_tree.proofs.Rest.{onto}
use Rattle.json_tree.proofs.fields.texts_in.Given as goal

-- what is found, and the texts of what is left, are the texts of all
abbrev pub invariant-loop-value : goal.invariant-loop-value
invariant-loop-value l = onto l.items.items (texts_of (items_view (drop l.value-index l.values))) ≡ texts_of (items_view l.values)
