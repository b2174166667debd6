use Rattle.http_message.proofs.Unique.{reading_unique}
use Rattle.http_message.proofs.law.one_reading.Goals as goal

pub returns : goal.returns
returns c = reading_unique 16777216
