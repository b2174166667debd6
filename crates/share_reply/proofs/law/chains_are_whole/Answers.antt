use Rattle.share_reply.proofs.FeedChain.{feed_chains_are_whole}
use Rattle.share_reply.proofs.FilesChain.{chains_are_whole, chains_give_actions}
use Rattle.share_reply.proofs.law.chains_are_whole.Goals as goal

pub returns-clause-files : goal.returns-clause-files
returns-clause-files c = chains_are_whole

pub returns-clause-changes : goal.returns-clause-changes
returns-clause-changes c = feed_chains_are_whole

pub returns-clause-actions : goal.returns-clause-actions
returns-clause-actions c = chains_give_actions
