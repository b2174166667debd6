use Rattle.benches.proofs.turns.page.PageKept.count.Goals as goal

pub returns-clause-legal : goal.returns-clause-legal
returns-clause-legal c before e after is = tt
