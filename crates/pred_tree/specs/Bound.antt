-- Predicates whose columns were looked up beforehand.
use Rattle.json_tree.specs.declared.pairs.Pairs.{Pairs}
use Rattle.part_values.specs.Typed.{Typed, null, boolean, whole, text, day, unread, typed}
use Rattle.pred_tree.specs.declared.truth.Truth.{Truth}
use Rattle.pred_tree.specs.Truth.{all_true, any_true, opposite, null_truth, if_ordered, order, text_of_column}
use Rattle.pred_tree.specs.declared.bound.BoundPred.{BoundPred}
use Rattle.pred_tree.specs.declared.bound.Known.{Known}
use Rattle.pred_tree.specs.declared.bound.Known.TheVariants as known
use Rattle.pred_tree.specs.declared.bound.Side.{Side}
use Rattle.pred_tree.specs.declared.bound.Side.TheVariants.{Column, Literal}
use Rattle.pred_tree.specs.declared.bound.Node.{Node}
use Rattle.pred_tree.specs.declared.bound.Node.TheOpen.{Node-F}
use Rattle.pred_tree.specs.declared.bound.Node.TheFolds.{fold-Node}

abbrev pub typed_of_known : Known → Typed
typed_of_known known.Null = null
typed_of_known (known.Bool b) = boolean b
typed_of_known (known.Whole n) = whole n
typed_of_known (known.Text t) = text t
typed_of_known (known.Day d) = day d
typed_of_known known.Unread = unread

abbrev pub value_of_side : Pairs → Side → Typed
value_of_side values (Column name kind) = typed (text_of_column name values) kind
value_of_side values (Literal k) = typed_of_known k

-- one level, with the truth of each predicate inside in its place
abbrev pub answer_step : Pairs → Node-F Truth → Truth
answer_step values (Node-F.All v) = all_true v.items
answer_step values (Node-F.Any v) = any_true v.items
answer_step values (Node-F.Not b) = opposite b.value
answer_step values (Node-F.IsNull name kind) = null_truth kind (text_of_column name values)
answer_step values (Node-F.Compare c left right) = if_ordered c (order (value_of_side values left) (value_of_side values right))

abbrev pub answer : Pairs → Node → Truth
answer values = fold-Node Truth (answer_step values)

-- what a bound predicate says of a file of these values
abbrev pub bound_truth : Pairs → BoundPred → Truth
bound_truth values b = answer values b.root
