use Rattle.share_request.proofs.LinkLaws.{links_are_read, one_spelling_of_links, spelling_keeps_names}
use Rattle.share_request.proofs.law.links_have_one_spelling.Goals as goal

pub returns-clause-links : goal.returns-clause-links
returns-clause-links c = links_are_read

pub returns-clause-one : goal.returns-clause-one
returns-clause-one c = one_spelling_of_links

pub returns-clause-same : goal.returns-clause-same
returns-clause-same c = spelling_keeps_names
