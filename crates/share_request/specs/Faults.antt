-- Why requests are refused, and the refusals that answer them.
use Rattle.std.specs.Prelude.{ℕ, List, [], Option, Some, None, Result, Ok, Err, codes}
use Rattle.case_table.specs.declared.refuse.Refusal.{Refusal}
use Rattle.case_table.specs.declared.refuse.Refusal.TheVariants as refusal
use Rattle.share_request.specs.declared.fault.Parameter.{Parameter}
use Rattle.share_request.specs.declared.fault.Parameter.TheVariants as parameter
use Rattle.share_request.specs.declared.fault.RequestFault.{RequestFault}
use Rattle.share_request.specs.declared.fault.RequestFault.TheVariants as fault
use Rattle.share_request.specs.declared.fault.TurnedAway.{TurnedAway}
use Rattle.share_request.specs.declared.fault.TurnedAway.TheVariants as early
use Rattle.query_body.specs.declared.query.QueryField.{QueryField}
use Rattle.query_body.specs.declared.query.QueryField.TheVariants as name

-- the parameters' names (Delta Sharing PROTOCOL.md, "REST APIs")
abbrev pub parameter_word : Parameter → List ℕ
parameter_word parameter.MaxResults = codes "maxResults"
parameter_word parameter.StartingTimestamp = codes "startingTimestamp"
parameter_word parameter.StartingVersion = codes "startingVersion"
parameter_word parameter.EndingTimestamp = codes "endingTimestamp"
parameter_word parameter.EndingVersion = codes "endingVersion"
parameter_word parameter.MaxFiles = codes "maxFiles"
parameter_word parameter.Version = codes "version"
parameter_word parameter.Timestamp = codes "timestamp"
parameter_word parameter.RefreshToken = codes "refreshToken"

abbrev pub early_refusal : TurnedAway → Refusal
early_refusal early.NoRoute = refusal.NotFound
early_refusal (early.WrongMethod m) = refusal.MethodNotAllowed
early_refusal early.NoBearer = refusal.Unauthenticated

abbrev pub fault_refusal : RequestFault → Refusal
fault_refusal (fault.BadParameter p) = refusal.BadParameter
fault_refusal fault.BadBody = refusal.BadBody
fault_refusal fault.NotFound = refusal.NotFound

-- what the message tells besides
abbrev pub fault_detail : RequestFault → List ℕ
fault_detail (fault.BadParameter p) = parameter_word p
fault_detail fault.BadBody = []
fault_detail fault.NotFound = []

-- a field of a query's body as a parameter
abbrev pub parameter_of : QueryField → Parameter
parameter_of name.MaxFiles = parameter.MaxFiles
parameter_of name.Version = parameter.Version
parameter_of name.Timestamp = parameter.Timestamp
parameter_of name.StartingVersion = parameter.StartingVersion
parameter_of name.EndingVersion = parameter.EndingVersion
parameter_of name.RefreshToken = parameter.RefreshToken

-- what was found, or that it is outside the parameter's grammar
abbrev pub or_bad : {X : Type 0} → Parameter → Option X → Result X RequestFault
or_bad p None = Err (fault.BadParameter p)
or_bad p (Some x) = Ok x

-- what was found, or that the body is a bad one
abbrev pub or_bad_body : {X : Type 0} → Option X → Result X RequestFault
or_bad_body None = Err fault.BadBody
or_bad_body (Some x) = Ok x
