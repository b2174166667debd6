use Rattle.http_message.proofs.Limits.{request_within, response_within}
use Rattle.http_message.proofs.law.bodies_have_limits.Goals as goal

pub returns : goal.returns
returns c = record { requests = request_within; responses = response_within }
