use Rattle.std.proofs.Common.{◌≡◌, ◌≤◌, ℕ, List, drop, length}
use Rattle.serde_json.specs.View.{items_view}
use Rattle.part_values.specs.Columns.{first_kind}
use Rattle.part_values.specs.Kinds.{kind_at}
use Rattle.part_values.proofs.columns.kinds_of.Given as goal

-- the types by the fields from here on
abbrev pub invariant-fields : goal.invariant-fields
invariant-fields l = record {
  within : l.left ≤ length l.fields;
  kinds : (q : List ℕ) → kind_at l.kinds q ≡ first_kind q (items_view (drop l.left l.fields));
}

abbrev pub decreases-fields : goal.decreases-fields
decreases-fields l = l.left
