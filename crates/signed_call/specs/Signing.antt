-- AWS Signature Version 4, with the signature in the field Authorization, for the service `s3` (AWS's public documentation, "Signature Version 4
-- signing process"). The names in capitals are the document's.
use Rattle.std.specs.Prelude.{ℕ, List, [], ◌∷◌, ◌++◌, codes}
use Rattle.std.specs.List.{flat_map}
use Rattle.hex.specs.Hex.{encode_lower}
use Rattle.sha2.specs.Sha256.{sha256}
use Rattle.hmac_core.specs.Hmac.{hmac}
use Rattle.text_forms.specs.Escape.{escaped}
use Rattle.signed_call.specs.declared.canonical.Asked.{Asked}
use Rattle.signed_call.specs.declared.field.Field.{Field}
use Rattle.signed_call.specs.declared.key.CallKey.{CallKey}
use Rattle.signed_call.specs.declared.stamp.Stamp.{Stamp}
use Rattle.signed_call.specs.Methods.{method_name}
use Rattle.signed_call.specs.Stamps.{day_digits, moment_text}

-- ---- "Create a canonical request"

-- a parameter of the query, URI-encoded
abbrev pub parameter : Field → List ℕ
parameter p = escaped p.name ++ (codes "=" ++ escaped p.value)

abbrev pub parameter_behind : Field → List ℕ
parameter_behind p = codes "&" ++ parameter p

abbrev pub parameters_behind : List Field → List ℕ
parameters_behind ps = flat_map parameter_behind ps

-- CanonicalQueryString, of parameters in order of name
abbrev pub canonical_query : List Field → List ℕ
canonical_query [] = []
canonical_query (p ∷ ps) = parameter p ++ parameters_behind ps

abbrev pub canonical_field : Field → List ℕ
canonical_field f = f.name ++ (codes ":" ++ (f.value ++ codes "\n"))

-- CanonicalHeaders, of fields in lower case and in order of name
abbrev pub canonical_fields : List Field → List ℕ
canonical_fields fields = flat_map canonical_field fields

abbrev pub name_behind : Field → List ℕ
name_behind f = codes ";" ++ f.name

abbrev pub names_behind : List Field → List ℕ
names_behind fields = flat_map name_behind fields

-- SignedHeaders
abbrev pub signed_names : List Field → List ℕ
signed_names [] = []
signed_names (f ∷ fields) = f.name ++ names_behind fields

-- a line each: HTTPMethod, CanonicalURI, CanonicalQueryString, CanonicalHeaders with an empty line behind them, SignedHeaders and HashedPayload
unfoldable pub canonical_request : Asked → List ℕ
canonical_request a =
    method_name a.method ++ codes "\n"
    ++ a.path ++ codes "\n"
    ++ canonical_query a.query ++ codes "\n"
    ++ canonical_fields a.fields ++ codes "\n"
    ++ signed_names a.fields ++ codes "\n"
    ++ a.digest

-- ---- "Create a string to sign"

-- Scope: the day, the region and the service
unfoldable pub scope : List ℕ → Stamp → List ℕ
scope region stamp = day_digits stamp ++ (codes "/" ++ (region ++ codes "/s3/aws4_request"))

unfoldable pub string_to_sign : List ℕ → Stamp → Asked → List ℕ
string_to_sign region stamp asked =
    codes "AWS4-HMAC-SHA256\n"
    ++ moment_text stamp ++ codes "\n"
    ++ scope region stamp ++ codes "\n"
    ++ encode_lower (sha256 (canonical_request asked))

-- ---- "Calculate the signature"

-- SigningKey: of the day, then of the region, then of the service
unfoldable pub signing_key : List ℕ → List ℕ → Stamp → List ℕ
signing_key secret region stamp =
    hmac (hmac (hmac (hmac (codes "AWS4" ++ secret) (day_digits stamp)) region) (codes "s3")) (codes "aws4_request")

unfoldable pub signature : List ℕ → List ℕ → Stamp → Asked → List ℕ
signature secret region stamp asked =
    encode_lower (hmac (signing_key secret region stamp) (string_to_sign region stamp asked))

-- ---- "Add the signature to the request"

unfoldable pub authorization : CallKey → List ℕ → Stamp → Asked → List ℕ
authorization key region stamp asked =
    codes "AWS4-HMAC-SHA256 Credential=" ++ key.id ++ codes "/" ++ scope region stamp
    ++ codes ",SignedHeaders=" ++ signed_names asked.fields
    ++ codes ",Signature=" ++ signature key.secret region stamp asked
