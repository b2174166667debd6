use Rattle.share_catalog.proofs.ViewLemmas.{bindings_are_shown, grants_are_shown, tables_are_shown}
use Rattle.share_catalog.proofs.laws.views_show_edits.Goals as goal

pub returns-clause-grants : goal.returns-clause-grants
returns-clause-grants c = grants_are_shown

pub returns-clause-bindings : goal.returns-clause-bindings
returns-clause-bindings c = bindings_are_shown

pub returns-clause-tables : goal.returns-clause-tables
returns-clause-tables c = tables_are_shown
