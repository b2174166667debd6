-- The profile of a recipient (Delta Sharing PROTOCOL.md, "Profile File Format"): a JSON object (RFC 8259).
use Rattle.std.specs.Prelude.{ℕ, ℤ, pos, negsuc, ◌==◌, ◌&&◌, List, Bool, true, false, Option, Some, None, Result, Ok, Err, length, nat_le, nat_lt, option_and_then, unwrap_or, if◌then◌else◌, codes}
use Rattle.std.specs.List.{list_all}
use Rattle.std.specs.Result.{result_ok}
use Rattle.serde_json.specs.Data.{Data}
use Rattle.serde_json.specs.Find.{as_str}
use Rattle.json_tree.specs.Fields.{field as field_of_kind, present, whole}
use Rattle.json_tree.specs.Gives.{AnswersBy}
use Rattle.json_tree.specs.Results.{◌>>=◌}
use Rattle.json_tree.specs.Tree.{tree_in}
use Rattle.json_tree.specs.declared.tree.TreeFault.{TreeFault}
use Rattle.share_config.specs.Texts.{before, text_in}
use Rattle.share_config.specs.Urls.{http_url_in}
use Rattle.share_config.specs.declared.profile.Profile.{Profile}
use Rattle.share_config.specs.declared.profile_fault.ProfileFault.{ProfileFault}
use Rattle.share_config.specs.declared.profile_fault.ProfileFault.TheVariants as fault
use Rattle.share_config.specs.declared.profile_fault.ProfileField.{ProfileField}
use Rattle.share_config.specs.declared.profile_fault.ProfileField.TheVariants as field

abbrev pub name_of : ProfileField → List ℕ
name_of field.ShareCredentialsVersion = codes "shareCredentialsVersion"
name_of field.Endpoint = codes "endpoint"
name_of field.BearerToken = codes "bearerToken"
name_of field.ExpirationTime = codes "expirationTime"

-- ---- the kinds of the fields; `text_in` is that of a text which has to be there

abbrev pub one : ℤ → Option ℕ
one (pos n) = if n == 1 then Some n else None
one (negsuc n) = None

-- the number 1, the one version of profiles that is read
abbrev pub version_in : List ℕ → Data → Option ℕ
version_in name d = option_and_then one (option_and_then whole (present name d))

-- a text or nothing, where it isn't of another kind
abbrev pub text_or_nothing_in : List ℕ → Data → Option (Option (List ℕ))
text_or_nothing_in name d = result_ok (field_of_kind as_str name d)

-- a visible character of ASCII
abbrev pub is_visible_byte : ℕ → Bool
is_visible_byte b = nat_le 33 b && nat_le b 126

-- The text where it is a word that can stand in a field of a head (RFC 9110, section 5.5). The characters of bearer tokens are some of
-- the visible ones (RFC 6750, section 2.1).
abbrev pub if_visible : List ℕ → Option (List ℕ)
if_visible text = if nat_lt 0 (length text) && list_all is_visible_byte text then Some text else None

abbrev pub token_in : List ℕ → Data → Option (List ℕ)
token_in name d = option_and_then if_visible (text_in name d)

-- ---- the profile

abbrev pub or_wrong : {X : Type 0} → ProfileField → Option X → Result X ProfileFault
or_wrong name None = Err (fault.Field name)
or_wrong name (Some x) = Ok x

-- what is read of a field, which has to be of its kind
abbrev pub required : {X : Type 0} → ProfileField → (List ℕ → Data → Option X) → Data → Result X ProfileFault
required name kind d = or_wrong name (kind (name_of name) d)

-- a text without the slash at its end, where it ends with one
abbrev pub without_slash : List ℕ → List ℕ
without_slash text = unwrap_or (before (codes "/") text) text

abbrev pub or_scheme : Option (List ℕ) → Result (List ℕ) ProfileFault
or_scheme None = Err fault.Scheme
or_scheme (Some url) = Ok url

-- the server's address, by the text of the field
abbrev pub address_of : List ℕ → Result (List ℕ) ProfileFault
address_of text = or_scheme (http_url_in (without_slash text))

-- the fields first, each of its kind, and then the address
unfoldable pub profile_of_value : Data → Result Profile ProfileFault
profile_of_value d = do
  version ← required field.ShareCredentialsVersion version_in d
  endpoint ← required field.Endpoint text_in d
  bearer ← required field.BearerToken token_in d
  expires ← required field.ExpirationTime text_or_nothing_in d
  address ← address_of endpoint
  Ok (record { endpoint = address; bearer = bearer; expires = expires })

abbrev pub profile_of_tree : Result Data TreeFault → Result Profile ProfileFault
profile_of_tree (Ok d) = profile_of_value d
profile_of_tree (Err e) = Err fault.NotJson

-- the profile that bytes state, or why they state none
abbrev pub profile_in : List ℕ → Result Profile ProfileFault
profile_in bytes = profile_of_tree (tree_in bytes)

abbrev pub lacks_memory : ProfileFault → Bool
lacks_memory fault.NoMemory = true
lacks_memory _ = false

-- The answer, seen by `seen`, is what was read, or why nothing is. Want of memory says nothing.
abbrev pub GivesBy : {X Y : Type 0} → (X → Y) → Result X ProfileFault → Result Y ProfileFault → Type 0
GivesBy seen result read = AnswersBy lacks_memory seen result read

abbrev pub Gives : {X : Type 0} → Result X ProfileFault → Result X ProfileFault → Type 0
Gives result read = GivesBy (λ x. x) result read
