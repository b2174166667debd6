use Rattle.http_message.proofs.ResponseUnique.{response_reading_unique}
use Rattle.http_message.proofs.law.one_response.Goals as goal

pub returns : goal.returns
returns c = response_reading_unique 268435456
