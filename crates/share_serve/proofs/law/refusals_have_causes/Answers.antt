use Rattle.share_serve.proofs.RefusedChanges.{changes_have_causes}
use Rattle.share_serve.proofs.RefusedFiles.{files_have_causes}
use Rattle.share_serve.proofs.RefusedNames.{faults_are_told, names_have_causes, strangers_are_refused}
use Rattle.share_serve.proofs.RefusedTables.{links_have_causes, versions_have_causes}
use Rattle.share_serve.proofs.law.refusals_have_causes.Goals as goal

pub returns-clause-strangers : goal.returns-clause-strangers
returns-clause-strangers c = strangers_are_refused

pub returns-clause-faults : goal.returns-clause-faults
returns-clause-faults c = faults_are_told

pub returns-clause-names : goal.returns-clause-names
returns-clause-names c = names_have_causes

pub returns-clause-versions : goal.returns-clause-versions
returns-clause-versions c = versions_have_causes

pub returns-clause-files : goal.returns-clause-files
returns-clause-files c = files_have_causes

pub returns-clause-changes : goal.returns-clause-changes
returns-clause-changes c = changes_have_causes

pub returns-clause-links : goal.returns-clause-links
returns-clause-links c = links_have_causes
