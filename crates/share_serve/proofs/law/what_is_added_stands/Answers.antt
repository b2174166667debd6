use Rattle.share_serve.proofs.Added.{what_is_added_stands}
use Rattle.share_serve.proofs.law.what_is_added_stands.Goals as goal

pub returns : goal.returns
returns c = what_is_added_stands c.commits_stand.ensures c.refreshes_stand.ensures c.edits_stand.ensures
