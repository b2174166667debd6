use Rattle.share_book.proofs.Looking.{glances_become_looks}
use Rattle.share_book.proofs.laws.glances_become_looks.Goals as goal

pub returns : goal.returns
returns c = glances_become_looks
