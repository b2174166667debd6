-- The size of a file, which is asked by HEAD (RFC 9110, sections 8.6 and 9.3.2).
use Rattle.std.specs.Prelude.{◌≡◌, ℕ, ◌⊎◌, ◌==◌, List, ◌++◌, Option, Some, None, Result, Ok, Err, ⊤, codes, count_by, if◌then◌else◌}
use Rattle.http_message.specs.Fields.{first_named, is_named}
use Rattle.http_message.specs.Framing.{length_in}
use Rattle.share_client.specs.Asking.{AnswersWith, AsksFor}
use Rattle.share_client.specs.Files.{query_tail}
use Rattle.share_client.specs.Requests.{head_text}
use Rattle.share_client.specs.Sides.{Counts, HasCause, Side}
use Rattle.share_client.specs.declared.ask.Wanted.TheVariants as wanted
use Rattle.share_client.specs.declared.exchange.Response.{Response}
use Rattle.share_client.specs.declared.fault.ClientFault.{ClientFault}
use Rattle.share_client.specs.declared.fault.ClientFault.TheVariants as fault
use Rattle.share_client.specs.declared.target.Target.{Target}

-- the request, without a token: who has the link may read
abbrev pub size_text : Target → List ℕ
size_text target = head_text (target.path ++ query_tail target.query) target.host_field

-- the one Content-Length of a response, of 1 to 18 digits
abbrev pub size_in : Response → Option ℕ
size_in r =
    if count_by (is_named (codes "content-length")) r.fields == 1 then length_in (first_named (codes "content-length") r.fields) else None

-- a head came that tells no size
abbrev pub TellsNoSize : Target → ClientFault → Side → Side → Type 0
TellsNoSize target e old new =
    (r : Response) × AnswersWith wanted.Head target (size_text target) r old new × (size_in r ≡ None) × (e ≡ fault.BadReply 0)

-- the size that a head tells, or why there is none
abbrev pub SizesFrom : Target → Result ℕ ClientFault → Side → Side → Type 0
SizesFrom target (Ok n) old new = (r : Response) × AnswersWith wanted.Head target (size_text target) r old new × (size_in r ≡ Some n)
SizesFrom target (Err e) old new =
    ((e ≡ fault.NoMemory) × (new ≡ old)) ⊎ (AsksFor wanted.Head target (size_text target) (Err e) old new ⊎ TellsNoSize target e old new)

-- of a text that is no link nothing is asked
abbrev pub SizesAt : Option Target → Result ℕ ClientFault → Side → Side → Type 0
SizesAt None result old new = (new ≡ old) × ((result ≡ Err fault.BadUrl) ⊎ (result ≡ Err fault.NoMemory))
SizesAt (Some target) result old new = SizesFrom target result old new

-- a fault comes only where the link's count of it rose
abbrev pub SizeCause : Result ℕ ClientFault → Counts → Counts → Type 0
SizeCause (Err fault.BadUrl) old new = ⊤
SizeCause result old new = HasCause result old new
