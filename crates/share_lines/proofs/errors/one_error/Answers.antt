use Rattle.share_lines.proofs.ErrorBack.{same_error}
use Rattle.share_lines.proofs.errors.one_error.Goals as goal

pub returns : goal.returns
returns c = same_error
