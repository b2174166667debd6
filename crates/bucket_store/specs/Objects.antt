-- What the calls of a store ask of a bucket, and what they answer by what comes back.
use Rattle.std.specs.Prelude.{◌≡◌, ℕ, ◌-◌, ◌+◌, ◌^◌, ◌<◌, ◌⊎◌, ◌==◌, ◌&&◌, min, Bool, true, false, List, [], ◌++◌, length, take, drop, Option, Some, None, IfSome, count_by, nat_le, bytes_eq, codes, decimal, ⊤, if◌then◌else◌}
use Rattle.edge_core.specs.declared.store.Got.{Got}
use Rattle.edge_core.specs.declared.store.Got.TheVariants as got
use Rattle.edge_core.specs.declared.store.Measured.{Measured}
use Rattle.edge_core.specs.declared.store.Measured.TheVariants as measured
use Rattle.edge_core.specs.declared.store.Put.{Put}
use Rattle.edge_core.specs.declared.store.Put.TheVariants as put
use Rattle.bucket_text.specs.Listings.{code_of}
use Rattle.file_ranges.specs.Ranges.{IsRange, Range, range_text}
use Rattle.http_message.specs.Fields.{first_named, is_named}
use Rattle.http_message.specs.Framing.{length_in}
use Rattle.signed_call.specs.declared.call.Call.{Call}
use Rattle.signed_call.specs.declared.call.Call.TheVariants as call
use Rattle.bucket_store.specs.declared.ends.ObjectEnd.{ObjectEnd}
use Rattle.bucket_store.specs.declared.exchange.Response.{Response}
use Rattle.bucket_store.specs.declared.looks.GetNext.{GetNext}
use Rattle.bucket_store.specs.declared.looks.GetNext.TheVariants as follows
use Rattle.bucket_store.specs.declared.looks.GetReply.{GetReply}
use Rattle.bucket_store.specs.declared.looks.SizeNext.{SizeNext}
use Rattle.bucket_store.specs.declared.looks.SizeNext.TheVariants as size
use Rattle.bucket_store.specs.declared.place.BucketPlace.{BucketPlace}
use Rattle.bucket_store.specs.declared.puts.Look.{Look}
use Rattle.bucket_store.specs.declared.puts.Look.TheVariants as look
use Rattle.bucket_store.specs.declared.puts.PutNext.{PutNext}
use Rattle.bucket_store.specs.declared.puts.PutNext.TheVariants as next
use Rattle.bucket_store.specs.Looks.{get_next, size_next}
use Rattle.bucket_store.specs.Puts.{looked, put_next, put_reply}
use Rattle.bucket_store.specs.Sides.{Side}
use Rattle.bucket_store.specs.Tries.{Asked, status_of}

-- the key of an object
abbrev pub key_of : BucketPlace → List ℕ → List ℕ
key_of place name = place.prefix ++ name

abbrev pub body_in : Option Response → List ℕ
body_in None = []
body_in (Some r) = r.body.items

-- the value of the first field of that name
abbrev pub field_in : List ℕ → Option Response → List ℕ
field_in name None = []
field_in name (Some r) = first_named name r.fields

-- the response has exactly one field of that name
abbrev pub has_one : List ℕ → Option Response → Bool
has_one name None = false
has_one name (Some r) = count_by (is_named name) r.fields == 1

-- ---- a part of an object

abbrev pub IsGet : List ℕ → ℕ → ℕ → Call → Type 0
IsGet key from last (call.Get name first end) = (name.now ≡ key) × (first ≡ from) × (end ≡ last)
IsGet key from last _ = ⊥

-- the last of so many places
abbrev pub last_of : ℕ → ℕ → ℕ
last_of from room = min (from + (room - 1)) (2 ^ 64 - 1)

-- what is looked at in a response to a get
pub record IsReply (response : Option Response) (reply : GetReply) : Type 0 where
  pub status : reply.status ≡ status_of response
  pub length_is : reply.length ≡ length (body_in response)
  pub range : IfSome reply.range (λ r. (size : ℕ) × (field_in (codes "content-range") response ≡ range_text (record { first = r.0; last = r.1; size = size })))
  pub read : (range : Range) → IsRange range → range.size < 2 ^ 64 → field_in (codes "content-range") response ≡ range_text range → reply.range ≡ Some (range.first, range.last)
  pub no_key : reply.no_such_key ≡ true → code_of (body_in response) ≡ Some (codes "NoSuchKey")

-- n bytes from that place on are in the front of `out`, as many as there are or fit
pub record IsFront (bytes : List ℕ) (skip n : ℕ) (out : List ℕ) : Type 0 where
  pub count : n ≡ min (length bytes - skip) (length out)
  pub same : take n out ≡ take n (drop skip bytes)

-- the answer is what follows, of the bytes of that body
abbrev pub IsTold : GetNext → List ℕ → Got → List ℕ → Type 0
IsTold (follows.Take skip) body (got.Bytes n) out = IsFront body skip n out
IsTold follows.Empty body (got.Bytes n) out = n ≡ 0
IsTold follows.Absent body got.Absent out = ⊤
IsTold follows.Again body got.Failed out = ⊤
IsTold follows.Failed body got.Failed out = ⊤
IsTold _ body _ out = ⊥

-- the answer follows from the response to the made-th request
abbrev pub IsGot : ℕ → ℕ → ℕ → Option Response → Got → List ℕ → Type 0
IsGot made from last response answer out = (reply : GetReply) × IsReply response reply × IsTold (get_next made from last reply) (body_in response) answer out

-- the response has a part, and tells how many bytes the object has (RFC 9110, section 14.4)
pub record TellsSize (response : Option Response) (size : ℕ) : Type 0 where
  pub part : status_of response ≡ Some 206
  pub range : (first last : ℕ) × (field_in (codes "content-range") response ≡ range_text (record { first = first; last = last; size = size }))

-- an end of the object of that name is the one that the response tells
abbrev pub IsEnd : List ℕ → Option Response → Option ObjectEnd → Type 0
IsEnd name response None = ⊤
IsEnd name response (Some end) = (end.name ≡ name) × TellsSize response end.size

-- memory was wanting; or the part was asked for
abbrev pub GetsPart : BucketPlace → List ℕ → ℕ → Got → Option ObjectEnd → List ℕ → Side → Side → Type 0
GetsPart place name from answer end out old new =
    ((answer ≡ got.Failed) × (end ≡ None) × (new ≡ old))
    ⊎ ((asked : Call) × IsGet (key_of place name) from (last_of from (length out)) asked
    × ((made : ℕ) × (response : Option Response) × Asked place asked made response old new × IsGot made from (last_of from (length out)) response answer out × IsEnd name response end))

-- the place is at or past the end of that object, which is known
abbrev pub is_past : Option ObjectEnd → List ℕ → ℕ → Bool
is_past None name from = false
is_past (Some end) name from = bytes_eq end.name name && nat_le end.size from

-- nothing is asked where the place is at or past the end that the response before told: objects don't change
abbrev pub ReadsPart : BucketPlace → List ℕ → ℕ → Option ObjectEnd → Got → Option ObjectEnd → List ℕ → Side → Side → Type 0
ReadsPart place name from known answer end out old new =
    ((is_past known name from ≡ true) × (answer ≡ got.Bytes 0) × (end ≡ known) × (new ≡ old)) ⊎ GetsPart place name from answer end out old new

-- ---- the size of an object

abbrev pub IsHead : List ℕ → Call → Type 0
IsHead key (call.Head name) = name.now ≡ key
IsHead key _ = ⊥

-- the one Content-Length
abbrev pub length_told : Option Response → Option ℕ
length_told response = if has_one (codes "content-length") response then length_in (field_in (codes "content-length") response) else None

abbrev pub measured_by : SizeNext → Measured
measured_by (size.Size n) = measured.Size n
measured_by size.Absent = measured.Absent
measured_by size.Again = measured.Failed
measured_by size.Failed = measured.Failed

abbrev pub Sizes : BucketPlace → List ℕ → Measured → Side → Side → Type 0
Sizes place name answer old new =
    ((answer ≡ measured.Failed) × (new ≡ old))
    ⊎ ((asked : Call) × IsHead (key_of place name) asked
    × ((made : ℕ) × (response : Option Response) × Asked place asked made response old new × (answer ≡ measured_by (size_next made (status_of response) (length_told response)))))

-- ---- a put

abbrev pub IsPut : List ℕ → List ℕ → List ℕ → Call → Type 0
IsPut key mark bytes (call.PutAbsent name by text) = (name.now ≡ key) × (by.now ≡ mark) × (text.now ≡ bytes)
IsPut key mark bytes _ = ⊥

-- the mark of a put: the store's, and the put's number
abbrev pub mark_of : List ℕ → ℕ → List ℕ
mark_of store number = store ++ codes "-" ++ decimal number

abbrev pub is_fine : Option ℕ → Bool
is_fine None = false
is_fine (Some status) = status == 200

-- what a response to a look shows of the object that has a put's name
abbrev pub look_of : List ℕ → Option Response → Look
look_of mark response =
    if is_fine (status_of response)
    then (if has_one (codes "x-amz-meta-share-put") response then (if bytes_eq (field_in (codes "x-amz-meta-share-put") response) mark then look.Ours else look.Others) else look.Others)
    else look.Nothing

-- a look decides
abbrev pub LooksAt : BucketPlace → List ℕ → List ℕ → Put → Side → Side → Type 0
LooksAt place key mark answer old new =
    (asked : Call) × IsHead key asked
    × ((made : ℕ) × (response : Option Response) × Asked place asked made response old new × (answer ≡ looked (look_of mark response)))

-- what follows from the last answer to a put
abbrev pub Follows : BucketPlace → List ℕ → List ℕ → PutNext → Put → Side → Side → Type 0
Follows place key mark (next.Done decided) answer old new = (answer ≡ decided) × (new ≡ old)
Follows place key mark next.Look answer old new = LooksAt place key mark answer old new
Follows place key mark next.Again answer old new = (answer ≡ put.Failed) × (new ≡ old)

abbrev pub PutsAt : BucketPlace → (mark name bytes : List ℕ) → Put → Side → Side → Type 0
PutsAt place mark name bytes answer old new =
    ((answer ≡ put.Failed) × (new ≡ old))
    ⊎ ((asked : Call) × IsPut (key_of place name) mark bytes asked
    × ((made : ℕ) × (response : Option Response) × (mid : Side) × Asked place asked made response old mid
    × Follows place (key_of place name) mark (put_next made (put_reply (status_of response))) answer mid new))
