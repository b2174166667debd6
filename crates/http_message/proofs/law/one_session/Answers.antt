use Rattle.http_message.proofs.SessionUnique.{session_unique}
use Rattle.http_message.proofs.law.one_session.Goals as goal

pub returns : goal.returns
returns c = session_unique
