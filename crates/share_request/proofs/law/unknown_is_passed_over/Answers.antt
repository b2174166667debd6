use Rattle.share_request.proofs.OtherFields.{other_fields_pass}
use Rattle.share_request.proofs.Unknown.{unknown_fields_pass, unknown_parameters_pass}
use Rattle.share_request.proofs.law.unknown_is_passed_over.Goals as goal

pub returns-clause-parameters : goal.returns-clause-parameters
returns-clause-parameters c = unknown_parameters_pass

pub returns-clause-fields : goal.returns-clause-fields
returns-clause-fields c = unknown_fields_pass

pub returns-clause-head : goal.returns-clause-head
returns-clause-head c = other_fields_pass
