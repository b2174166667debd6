-- Laws of requests.
use Rattle.std.specs.Prelude.{◌≡◌, ◌≢◌, ℕ, ◌<◌, List, [], ◌∷◌, ◌++◌, All, Option, Some, None, option_map, is_some, filter, codes, IsTrue}
use Rattle.std.specs.List.{join_with_byte}
use Rattle.case_table.specs.declared.routing.Method.TheVariants as method
use Rattle.http_message.specs.Fields.{is_named}
use Rattle.http_message.specs.Framing.{Pairs}
use Rattle.http_message.specs.declared.head.Head.{Head}
use Rattle.json_tree.specs.Options.{◌>>=◌}
use Rattle.percent_encoding.specs.Percent.{percent_decode}
use Rattle.serde_json.specs.Data.{Data}
use Rattle.serde_json.specs.Find.{as_object}
use Rattle.form_urlencoded.specs.Form.{split_pair}
use Rattle.signed_link.specs.Link.{endpoint_path, IsLink}
use Rattle.signed_link.specs.Reading.{after}
use Rattle.signed_link.specs.declared.parts.LinkParts.{LinkParts}
use Rattle.share_request.specs.Bodies.{offer_of}
use Rattle.share_request.specs.Capabilities.{capability_parts, names_formats}
use Rattle.share_request.specs.InForm.{IsInForm}
use Rattle.share_request.specs.Parameters.{text_of}
use Rattle.query_body.specs.Fields.{SameMembers, query_fields}
use Rattle.query_body.specs.Query.{query_of_value}
use Rattle.share_request.specs.Requests.{has_method, link_request, request_in}
use Rattle.share_request.specs.Targets.{below_endpoint, link_parts, link_target, path_spelling}

-- what is answered is in form
abbrev pub RequestsAreInForm : Type 0
RequestsAreInForm = (head : Head) (body : List ℕ) → IsInForm (request_in head body)

-- ---- what isn't known is passed over

-- the parameters that are read
abbrev pub known_parameters : List (List ℕ)
known_parameters =
    codes "maxResults" ∷ codes "pageToken" ∷ codes "startingTimestamp" ∷ codes "startingVersion" ∷ codes "endingTimestamp"
    ∷ codes "endingVersion" ∷ codes "maxFiles" ∷ codes "version" ∷ codes "timestamp" ∷ []

abbrev pub with_target : Head → List ℕ → Head
with_target head target = record head { target = target }

-- The query string, of a target whose path isn't a link's, is pieces between `&`, and one of them is a parameter of another name: the
-- request is the one without it.
abbrev pub UnknownParametersPass : Type 0
UnknownParametersPass =
    (head : Head) (path pair body : List ℕ) (before behind : List (List ℕ))
    → All (λ b. b ≢ 63) path
    → (below_endpoint path >>= after (codes "files/")) ≡ None
    → All (λ b. b ≢ 38) pair
    → All (λ known. text_of ((split_pair pair).0) ≢ known) known_parameters
    → request_in (with_target head (path ++ 63 ∷ join_with_byte 38 (before ++ pair ∷ behind))) body
    ≡ request_in (with_target head (path ++ 63 ∷ join_with_byte 38 (before ++ behind))) body

abbrev pub offer_fields : List (List ℕ)
offer_fields = codes "location" ∷ codes "readVersion" ∷ codes "reads" ∷ codes "actions" ∷ []

-- bodies that differ in unknown fields alone ask the same
abbrev pub UnknownFieldsPass : Type 0
UnknownFieldsPass =
    ((d e : Data) → is_some (as_object d) ≡ is_some (as_object e) → SameMembers query_fields d e → query_of_value d ≡ query_of_value e)
    × ((d e : Data) → SameMembers offer_fields d e → offer_of d ≡ offer_of e)

-- the fields that are read by their names alone: all of that name, in order
abbrev pub known_fields : List (List ℕ)
known_fields = codes "authorization" ∷ codes "range" ∷ codes "if-range" ∷ []

-- the fields of these names are the same, and so are the parts that name formats
pub record SameFields (fields others : Pairs) : Type 0 where
  pub named : All (λ name. filter (is_named name) fields ≡ filter (is_named name) others) known_fields
  pub formats : filter names_formats (capability_parts fields) ≡ filter names_formats (capability_parts others)

abbrev pub with_fields : Head → Pairs → Head
with_fields head fields = record head { fields = fields }

-- heads that differ in other fields, or in other parts of `delta-sharing-capabilities`, ask the same
abbrev pub OtherFieldsPass : Type 0
OtherFieldsPass =
    (head : Head) (fields others : Pairs) (body : List ℕ)
    → SameFields fields others → request_in (with_fields head fields) body ≡ request_in (with_fields head others) body

-- ---- links

-- the names and the path that stand below `files/`, unescaped
abbrev pub names_and_path : List ℕ → Option (List ℕ × List ℕ × List ℕ × List ℕ)
names_and_path below = option_map (λ p. (percent_decode p.0, percent_decode p.1, percent_decode p.2, percent_decode p.3)) (link_parts below)

-- the one spelling says the same
abbrev pub SpellingKeepsNames : Type 0
SpellingKeepsNames = (below : List ℕ) → All (λ b. b < 256) below → names_and_path (path_spelling below) ≡ names_and_path below

-- targets with the same names, path and query have the same spelling
abbrev pub OneSpelling : Type 0
OneSpelling =
    (below other : List ℕ) (query : Option (List ℕ)) (parts : List ℕ × List ℕ × List ℕ × List ℕ)
    → names_and_path below ≡ Some parts → names_and_path other ≡ Some parts → link_target below query ≡ link_target other query

-- the target of a link is read as the request by link with that target, of GET and of HEAD
abbrev pub LinksAreRead : Type 0
LinksAreRead =
    (head : Head) (body key : List ℕ) (parts : LinkParts)
    → IsLink key endpoint_path head.target parts → IsTrue (has_method method.GetOrHead head.method) → request_in head body ≡ link_request head head.target
