use Rattle.change_feed.proofs.LawLemmas as law
use Rattle.change_feed.proofs.laws.later_commits_leave.Goals as goal

pub returns : goal.returns
returns c = law.later_commits_leave
