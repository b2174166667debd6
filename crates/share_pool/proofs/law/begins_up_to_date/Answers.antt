use Rattle.share_pool.proofs.Stored.{are_up_to_date}
use Rattle.share_pool.proofs.law.begins_up_to_date.Goals as goal

pub returns : goal.returns
returns c = are_up_to_date
