use Rattle.log_store.proofs.Backing.{loaded}
use Rattle.log_store.proofs.law.backed_logs_are_loaded.Goals as goal

pub returns : goal.returns
returns c = loaded
