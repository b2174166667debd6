use Rattle.share_reply.proofs.LawLemmas.{stale_tokens_give_nothing, ungranted_shares_are_alike, unseen_tables_are_alike}
use Rattle.share_reply.proofs.law.hidden_is_like_absent.Goals as goal

pub returns-clause-tables : goal.returns-clause-tables
returns-clause-tables c = unseen_tables_are_alike

pub returns-clause-shares : goal.returns-clause-shares
returns-clause-shares c = ungranted_shares_are_alike

pub returns-clause-stale : goal.returns-clause-stale
returns-clause-stale c = stale_tokens_give_nothing
