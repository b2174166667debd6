use Rattle.share_hub.proofs.CatalogNodes.{edit_faults_steps, edits_steps, refreshes_steps}
use Rattle.share_hub.proofs.NodeCalls.{calls_steps, faults_steps}
use Rattle.share_hub.proofs.table_laws.calls_are_steps.Goals as goal

pub returns-clause-calls : goal.returns-clause-calls
returns-clause-calls c = calls_steps

pub returns-clause-faults : goal.returns-clause-faults
returns-clause-faults c = faults_steps

pub returns-clause-edits : goal.returns-clause-edits
returns-clause-edits c = edits_steps

pub returns-clause-edit_faults : goal.returns-clause-edit_faults
returns-clause-edit_faults c = edit_faults_steps

pub returns-clause-refreshes : goal.returns-clause-refreshes
returns-clause-refreshes c = refreshes_steps
