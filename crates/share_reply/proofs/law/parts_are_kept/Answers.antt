use Rattle.share_reply.proofs.PartsKept.{hidden_files_are_not_given, nothing_is_before_first}
use Rattle.share_reply.proofs.law.parts_are_kept.Goals as goal

pub returns-clause-files : goal.returns-clause-files
returns-clause-files c = hidden_files_are_not_given

pub returns-clause-versions : goal.returns-clause-versions
returns-clause-versions c = nothing_is_before_first
