use Rattle.share_serve.proofs.GivenChanges.{changes_are_given, links_are_given}
use Rattle.share_serve.proofs.GivenNames.{names_are_given}
use Rattle.share_serve.proofs.GivenTables.{files_are_given, metadata_is_given, versions_are_given}
use Rattle.share_serve.proofs.law.what_is_granted_is_given.Goals as goal

pub returns-clause-names : goal.returns-clause-names
returns-clause-names c = names_are_given

pub returns-clause-versions : goal.returns-clause-versions
returns-clause-versions c = versions_are_given

pub returns-clause-metadata : goal.returns-clause-metadata
returns-clause-metadata c = metadata_is_given

pub returns-clause-files : goal.returns-clause-files
returns-clause-files c = files_are_given

pub returns-clause-changes : goal.returns-clause-changes
returns-clause-changes c = changes_are_given

pub returns-clause-links : goal.returns-clause-links
returns-clause-links c = links_are_given
