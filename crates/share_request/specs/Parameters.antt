-- The parameters of query strings (Delta Sharing PROTOCOL.md, "REST APIs"; URL Standard, section 5).
use Rattle.std.specs.Prelude.{ℕ, ◌-◌, ◌^◌, ℤ, List, [], ◌∷◌, Option, Some, None, Result, Ok, Err, is_some, map, min, unwrap_or, bytes_eq, if◌then◌else◌, codes}
use Rattle.std.specs.Str.Lossy.{utf8_lossy}
use Rattle.form_urlencoded.specs.Form.{decode, raw_pairs}
use Rattle.json_tree.specs.Options.{unless_empty}
use Rattle.json_tree.specs.Results.{◌>>=◌}
use Rattle.text_forms.specs.Numbers.{number_in}
use Rattle.share_request.specs.Faults.{or_bad, parameter_word}
use Rattle.query_body.specs.Query.{moment_of}
use Rattle.share_request.specs.declared.asked.Bound.{Bound}
use Rattle.share_request.specs.declared.asked.Bound.TheVariants as bound
use Rattle.share_request.specs.declared.asked.ListPage.{ListPage}
use Rattle.share_request.specs.declared.fault.Parameter.{Parameter}
use Rattle.share_request.specs.declared.fault.Parameter.TheVariants as parameter
use Rattle.share_request.specs.declared.fault.RequestFault.{RequestFault}
use Rattle.share_request.specs.declared.fault.RequestFault.TheVariants as fault
use Rattle.share_request.specs.declared.parameter.QueryPair.{QueryPair}

-- the text of a name or a value: `+` is a space, escapes are decoded, and U+FFFD stands for what isn't UTF-8
abbrev pub text_of : List ℕ → List ℕ
text_of bytes = utf8_lossy (decode bytes)

abbrev pub pair_of : List ℕ × List ℕ → QueryPair
pair_of raw = record { name = text_of raw.0; value = text_of raw.1 }

-- the names and the values of a query string, in order
abbrev pub pairs_in : List ℕ → List QueryPair
pairs_in query = map pair_of (raw_pairs query)

-- the value of the first of that name
abbrev pub first_value : List ℕ → List QueryPair → Option (List ℕ)
first_value name [] = None
first_value name (p ∷ pairs) = if bytes_eq p.name name then Some p.value else first_value name pairs

-- ---- grammars

-- what a reader makes of a value, where there is one
abbrev pub read_value : {X : Type 0} → Parameter → (List ℕ → Option X) → Option (List ℕ) → Result (Option X) RequestFault
read_value p read None = Ok None
read_value p read (Some text) = or_bad p (read text) >>= λ x. Ok (Some x)

abbrev pub number_at : Parameter → ℕ → ℕ → List QueryPair → Result (Option ℕ) RequestFault
number_at p low high pairs = read_value p (number_in low high) (first_value (parameter_word p) pairs)

-- an instant, in nanoseconds since 1970, by the grammar of `jiff`
abbrev pub moment_at : Parameter → List QueryPair → Result (Option ℤ) RequestFault
moment_at p pairs = read_value p moment_of (first_value (parameter_word p) pairs)

abbrev pub version_at : Parameter → List QueryPair → Result (Option ℕ) RequestFault
version_at p pairs = number_at p 0 (2 ^ 63 - 1) pairs

abbrev pub max_files_in : List QueryPair → Result (Option ℕ) RequestFault
max_files_in pairs = number_at parameter.MaxFiles 1 (2 ^ 31 - 1) pairs

-- an empty token counts as none
abbrev pub token_in : List QueryPair → Option (List ℕ)
token_in pairs = unless_empty (first_value (codes "pageToken") pairs)

-- the one of the two that is there, not both
abbrev pub one_bound : Parameter → Option ℤ → Option ℕ → Result (Option Bound) RequestFault
one_bound p None None = Ok None
one_bound p None (Some v) = Ok (Some (bound.Version v))
one_bound p (Some m) None = Ok (Some (bound.Moment m))
one_bound p (Some m) (Some v) = Err (fault.BadParameter p)

-- ---- by route

-- at most 500 names, and 500 where no number is given
abbrev pub most_in : List QueryPair → Result ℕ RequestFault
most_in pairs = number_at parameter.MaxResults 0 (2 ^ 31 - 1) pairs >>= λ given. Ok (min (unwrap_or given 500) 500)

abbrev pub page_in : List QueryPair → Result ListPage RequestFault
page_in pairs = most_in pairs >>= λ most. Ok (record { most = most; token = token_in pairs })

-- the version or the moment whose metadata is asked for
abbrev pub at_in : List QueryPair → Result (Option Bound) RequestFault
at_in pairs = do
  version ← version_at parameter.Version pairs
  moment ← moment_at parameter.Timestamp pairs
  one_bound parameter.Timestamp moment version

abbrev pub start_in : List QueryPair → Result (Option Bound) RequestFault
start_in pairs = do
  moment ← moment_at parameter.StartingTimestamp pairs
  version ← version_at parameter.StartingVersion pairs
  one_bound parameter.StartingVersion moment version

-- where changes start; only a token stands for it
abbrev pub start_or_token : Option (List ℕ) → Option Bound → Result (Option Bound) RequestFault
start_or_token token (Some start) = Ok (Some start)
start_or_token token None = if is_some token then Ok None else Err (fault.BadParameter parameter.StartingVersion)

abbrev pub from_in : List QueryPair → Option (List ℕ) → Result (Option Bound) RequestFault
from_in pairs token = start_in pairs >>= start_or_token token

-- where changes end
abbrev pub to_in : List QueryPair → Result (Option Bound) RequestFault
to_in pairs = do
  moment ← moment_at parameter.EndingTimestamp pairs
  version ← version_at parameter.EndingVersion pairs
  one_bound parameter.EndingVersion moment version
