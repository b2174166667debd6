use Rattle.share_catalog.proofs.HolderLemmas.{holders_are_found}
use Rattle.share_catalog.proofs.laws.holders_are_found.Goals as goal

pub returns : goal.returns
returns c = holders_are_found
