-- Classes beside the table of value types.
use Rattle.std.proofs.Common.{◌≡◌, Option, Some, None, option_map, refl}
use Rattle.case_table.specs.ValueTypes.{value_row, value_type_of_word}
use Rattle.case_table.specs.declared.values.ValueType.{ValueType}
use Rattle.case_table.specs.declared.values.ValueType.TheVariants as value
use Rattle.pred_tree.specs.Kinds.{class, part_type}
use Rattle.pred_tree.specs.Laws.{FollowsTable}

agree : (kind : Option ValueType) → class (part_type kind) ≡ option_map (λ v. (value_row v).class) kind
agree None = refl
agree (Some value.Bool) = refl
agree (Some value.Int) = refl
agree (Some value.Long) = refl
agree (Some value.String) = refl
agree (Some value.Date) = refl

pub follows_table : FollowsTable
follows_table word = agree (value_type_of_word word)
