use Rattle.share_client.proofs.Covering.{pieces_are_whole, pieces_cover}
use Rattle.share_client.proofs.law.pieces_are_whole.Goals as goal

pub returns-clause-cover : goal.returns-clause-cover
returns-clause-cover c = pieces_cover

pub returns-clause-whole : goal.returns-clause-whole
returns-clause-whole c = pieces_are_whole
