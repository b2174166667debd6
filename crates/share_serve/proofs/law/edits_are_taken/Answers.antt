use Rattle.share_serve.proofs.Takes.{edits_taken}
use Rattle.share_serve.proofs.law.edits_are_taken.Goals as goal

pub returns : goal.returns
returns c = edits_taken c.edits_are_recorded.ensures
