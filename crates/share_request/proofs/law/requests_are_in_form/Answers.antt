use Rattle.share_request.proofs.Forms.{requests_are_in_form}
use Rattle.share_request.proofs.law.requests_are_in_form.Goals as goal

pub returns : goal.returns
returns c = requests_are_in_form
