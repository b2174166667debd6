use Rattle.share_hub.proofs.TableStanding.{commits}
use Rattle.share_hub.proofs.table_laws.commits_stand.Goals as goal

pub returns : goal.returns
returns c = commits
