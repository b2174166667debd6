-- What is signed of a request to a bucket, in path style (Amazon S3 API Reference, "GetObject", "HeadObject", "PutObject" and "ListObjectsV2").
use Rattle.std.specs.Prelude.{ℕ, List, [], ◌∷◌, ◌++◌, Option, Some, None, codes}
use Rattle.std.specs.Borrow.{Bor}
use Rattle.std.specs.Fmt.{decimal}
use Rattle.hex.specs.Hex.{encode_lower}
use Rattle.sha2.specs.Sha256.{sha256}
use Rattle.signed_call.specs.declared.call.Call.{Call}
use Rattle.signed_call.specs.declared.call.Call.TheVariants as call
use Rattle.signed_call.specs.declared.call.Method.{Method}
use Rattle.signed_call.specs.declared.call.Method.TheVariants as method
use Rattle.signed_call.specs.declared.canonical.Asked.{Asked}
use Rattle.signed_call.specs.declared.field.Field.{Field}
use Rattle.signed_call.specs.declared.key.CallKey.{CallKey}
use Rattle.signed_call.specs.declared.key.CallPlace.{CallPlace}
use Rattle.signed_call.specs.declared.stamp.Stamp.{Stamp}
use Rattle.signed_call.specs.Paths.{escaped_path}
use Rattle.signed_call.specs.Stamps.{moment_text}

abbrev pub method_of : Call → Method
method_of (call.Head name) = method.Head
method_of (call.PutAbsent name mark bytes) = method.Put
method_of _ = method.Get

-- only a put has a body
abbrev pub body_of : Call → List ℕ
body_of (call.PutAbsent name mark bytes) = bytes.now
body_of _ = []

-- below the bucket's name, the object's
abbrev pub place_of : List ℕ → Call → List ℕ
place_of bucket (call.Get name from last) = codes "/" ++ bucket ++ codes "/" ++ name.now
place_of bucket (call.Head name) = codes "/" ++ bucket ++ codes "/" ++ name.now
place_of bucket (call.PutAbsent name mark bytes) = codes "/" ++ bucket ++ codes "/" ++ name.now
place_of bucket (call.List prefix token) = codes "/" ++ bucket

abbrev pub path_of : List ℕ → Call → List ℕ
path_of bucket asked = escaped_path (place_of bucket asked)

abbrev pub field : List ℕ → List ℕ → Field
field name value = record { name = name; value = value }

-- where a listing goes on
abbrev pub token_query : Option (Bor (List ℕ)) → List Field
token_query None = []
token_query (Some token) = field (codes "continuation-token") token.now ∷ []

-- names that begin so and have no further slash, escaped, at most 1,000
abbrev pub listed_query : List ℕ → List Field
listed_query prefix =
    field (codes "delimiter") (codes "/")
    ∷ field (codes "encoding-type") (codes "url")
    ∷ field (codes "list-type") (codes "2")
    ∷ field (codes "max-keys") (codes "1000")
    ∷ field (codes "prefix") prefix ∷ []

abbrev pub query_of : Call → List Field
query_of (call.List prefix token) = token_query token ++ listed_query prefix.now
query_of _ = []

abbrev pub range_value : ℕ → ℕ → List ℕ
range_value from last = codes "bytes=" ++ decimal from ++ codes "-" ++ decimal last

-- a part of the object (RFC 9110, section 14.2); nothing is stored where an object has the name (RFC 9110, section 13.1.2)
abbrev pub own_fields : Call → List Field
own_fields (call.Get name from last) =
    field (codes "range") (range_value from last) ∷ []
own_fields (call.PutAbsent name mark bytes) = field (codes "if-none-match") (codes "*") ∷ []
own_fields _ = []

-- stored with the object ("Working with object metadata")
abbrev pub mark_fields : Call → List Field
mark_fields (call.PutAbsent name mark bytes) = field (codes "x-amz-meta-share-put") mark.now ∷ []
mark_fields _ = []

abbrev pub token_fields : Option (List ℕ) → List Field
token_fields None = []
token_fields (Some token) = field (codes "x-amz-security-token") token ∷ []

-- all fields that are signed, in order of name
abbrev pub fields_of : List ℕ → Option (List ℕ) → Stamp → Call → List ℕ → List Field
fields_of host token stamp asked digest =
    field (codes "host") host
    ∷ (own_fields asked
    ++ (field (codes "x-amz-content-sha256") digest
    ∷ field (codes "x-amz-date") (moment_text stamp)
    ∷ (mark_fields asked ++ token_fields token)))

-- what is signed; the digest is that of the body
abbrev pub asked_of : CallKey → CallPlace → Stamp → Call → Asked
asked_of key place stamp asked =
    let digest = encode_lower (sha256 (body_of asked)) in
    record {
      method = method_of asked;
      path = path_of place.bucket asked;
      query = query_of asked;
      fields = fields_of place.host key.token stamp asked digest;
      digest = digest;
    }
