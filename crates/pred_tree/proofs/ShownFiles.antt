-- What is shown of a table that is shared in part.
use Rattle.std.proofs.Common.{◌≡◌, true, Option, Some, None, refl, sym, ap, ◌∙◌}
use Rattle.log_actions.specs.declared.actions.AddFile.{AddFile}
use Rattle.log_actions.specs.declared.actions.MetaData.{MetaData}
use Rattle.part_values.specs.Columns.{columns_in}
use Rattle.pred_tree.specs.Grammar.{predicate_in}
use Rattle.pred_tree.specs.Laws.{ShownAreListed, ShownRestsOnNamed, ShownRowsSatisfy}
use Rattle.pred_tree.specs.Rows.{Knows}
use Rattle.pred_tree.specs.Shown.{is_shown, is_true}
use Rattle.pred_tree.specs.Tree.{Tree}
use Rattle.pred_tree.specs.Truth.{is_listed, is_not_false}
use Rattle.pred_tree.specs.declared.truth.Truth.{Truth}
use Rattle.pred_tree.specs.declared.truth.Truth.TheVariants.{True, False, Unknown}
use Rattle.pred_tree.proofs.LawProofs.{rests_on_named}
use Rattle.pred_tree.proofs.Sound.{pruning}

true_of : (x : Truth) → is_true x ≡ true → x ≡ True
true_of True e = refl
true_of False e = cc
true_of Unknown e = cc

listed_of : (x : Truth) → is_true x ≡ true → is_not_false x ≡ true
listed_of True e = refl
listed_of False e = cc
listed_of Unknown e = cc

listed_by : (o : Option Tree) (meta : MetaData) (file : AddFile) → is_shown o meta file ≡ true → is_listed o (columns_in meta.schema meta.columns) file.values ≡ true
listed_by None meta file e = cc
listed_by (Some t) meta file e = listed_of _ e

pub shown_are_listed : ShownAreListed
shown_are_listed text meta file e = listed_by (predicate_in text) meta file e

pub shown_rests_on_named : ShownRestsOnNamed
shown_rests_on_named text t meta file other is same =
    ap (λ o. is_shown o meta file) is ∙ ap is_true (rests_on_named (columns_in meta.schema meta.columns) file.values other.values t same) ∙ sym (ap (λ o. is_shown o meta other) is)

known_of : (x y : Truth) → x ≡ True → Knows x y → y ≡ True
known_of True y e k = k
known_of False y e k = cc
known_of Unknown y e k = cc

pub shown_rows : ShownRowsSatisfy
shown_rows text t meta file row is shown row_of read =
    known_of _ _ (true_of _ (sym (ap (λ o. is_shown o meta file) is) ∙ shown)) (pruning (columns_in meta.schema meta.columns) file.values row t row_of read)
