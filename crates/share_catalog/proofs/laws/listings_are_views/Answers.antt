use Rattle.share_catalog.proofs.JoinLemmas.{tables_are_joined}
use Rattle.share_catalog.proofs.ViewLemmas.{bindings_are_listed, grants_are_listed}
use Rattle.share_catalog.proofs.laws.listings_are_views.Goals as goal

pub returns-clause-grants : goal.returns-clause-grants
returns-clause-grants c = grants_are_listed

pub returns-clause-bindings : goal.returns-clause-bindings
returns-clause-bindings c = bindings_are_listed

pub returns-clause-tables : goal.returns-clause-tables
returns-clause-tables c = tables_are_joined
