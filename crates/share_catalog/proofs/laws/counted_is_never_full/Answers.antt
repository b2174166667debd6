use Rattle.share_catalog.proofs.LawProofs.{counted_is_never_full}
use Rattle.share_catalog.proofs.laws.counted_is_never_full.Goals as goal

pub returns : goal.returns
returns c = counted_is_never_full
