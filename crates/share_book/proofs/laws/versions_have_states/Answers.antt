use Rattle.share_book.proofs.LegalLogs.{versions_have_states}
use Rattle.share_book.proofs.Versions.{fronts_have_states, states_counted}
use Rattle.share_book.proofs.laws.versions_have_states.Goals as goal

pub returns-clause-legal : goal.returns-clause-legal
returns-clause-legal c = versions_have_states

pub returns-clause-logs : goal.returns-clause-logs
returns-clause-logs c = λ commits blocked. (states_counted commits blocked, λ version kept. fronts_have_states commits blocked version kept)
