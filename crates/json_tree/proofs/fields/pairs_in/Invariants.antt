use Rattle.std.proofs.Common.{◌≡◌, map}
use Rattle.json_tree.specs.Fields.{pairs_of}
use Rattle.json_tree.specs.Lists.{pair_of}
use Rattle.serde_json.specs.View.{members_view}
use Rattle.json_tree.proofs.Rest.{onto}
use Rattle.json_tree.proofs.fields.pairs_in.Given as goal

-- what is found, and the pairs of what is left, are the pairs of all
abbrev pub invariant-loop-name : goal.invariant-loop-name
invariant-loop-name l = onto (map pair_of l.items.items) (pairs_of (members_view l.name-iterator)) ≡ pairs_of (members_view l.members.entries)
