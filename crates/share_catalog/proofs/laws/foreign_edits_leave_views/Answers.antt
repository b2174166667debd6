use Rattle.share_catalog.proofs.KeptViews.{edits_leave_views, views_are_shown}
use Rattle.share_catalog.proofs.laws.foreign_edits_leave_views.Goals as goal

pub returns-clause-shown : goal.returns-clause-shown
returns-clause-shown c = views_are_shown

pub returns-clause-edits : goal.returns-clause-edits
returns-clause-edits c = edits_leave_views
