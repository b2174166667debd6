use Rattle.change_feed.proofs.LawLemmas as law
use Rattle.change_feed.proofs.laws.cuts_join.Goals as goal

pub returns : goal.returns
returns c = law.cuts_join
