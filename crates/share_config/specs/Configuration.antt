-- The configuration of a server: a JSON object (RFC 8259) whose six fields are this server's own.
use Rattle.std.specs.Prelude.{ℕ, ℤ, pos, negsuc, List, [], ◌∷◌, Bool, true, false, Option, Some, None, Result, Ok, Err, option_and_then, option_map, length, nat_le, if◌then◌else◌, codes}
use Rattle.serde_json.specs.Data.{Data, Items, no_items, item}
use Rattle.serde_json.specs.Find.{as_array, as_str}
use Rattle.json_tree.specs.Fields.{present, whole}
use Rattle.json_tree.specs.Gives.{AnswersBy}
use Rattle.json_tree.specs.Results.{◌>>=◌}
use Rattle.json_tree.specs.Tree.{tree_in}
use Rattle.json_tree.specs.declared.tree.TreeFault.{TreeFault}
use Rattle.share_config.specs.Endpoints.{is_endpoint}
use Rattle.share_config.specs.Limits.{is_link_ttl}
use Rattle.share_config.specs.Texts.{bytes_in, bytes_of, text_in}
use Rattle.share_config.specs.declared.config.Config.{Config}
use Rattle.share_config.specs.declared.config_fault.ConfigFault.{ConfigFault}
use Rattle.share_config.specs.declared.config_fault.ConfigFault.TheVariants as fault
use Rattle.share_config.specs.declared.config_fault.ConfigField.{ConfigField}
use Rattle.share_config.specs.declared.config_fault.ConfigField.TheVariants as field

abbrev pub name_of : ConfigField → List ℕ
name_of field.TokenKey = codes "tokenKey"
name_of field.LinkKey = codes "linkKey"
name_of field.AdminDigest = codes "adminDigest"
name_of field.ProviderDigests = codes "providerDigests"
name_of field.LinkTtlSeconds = codes "linkTtlSeconds"
name_of field.Endpoint = codes "endpoint"

-- ---- the kinds of the fields; `bytes_in` is that of a key and a digest

abbrev pub values_in : List ℕ → Data → Option Items
values_in name d = option_and_then as_array (present name d)

abbrev pub digest_of : Data → Option (List ℕ)
digest_of d = option_and_then bytes_of (as_str d)

-- the digests that the texts of an array spell, each of them one
abbrev pub digests_of : Items → Option (List (List ℕ))
digests_of no_items = Some []
digests_of (item d ds) = option_and_then (λ digest. option_map (λ rest. digest ∷ rest) (digests_of ds)) (digest_of d)

abbrev pub at_most_64 : List (List ℕ) → Option (List (List ℕ))
at_most_64 digests = if nat_le (length digests) 64 then Some digests else None

abbrev pub digests_in : List ℕ → Data → Option (List (List ℕ))
digests_in name d = option_and_then at_most_64 (option_and_then digests_of (values_in name d))

abbrev pub ttl_of : ℤ → Option ℕ
ttl_of (pos n) = if is_link_ttl n then Some n else None
ttl_of (negsuc n) = None

abbrev pub ttl_in : List ℕ → Data → Option ℕ
ttl_in name d = option_and_then ttl_of (option_and_then whole (present name d))

abbrev pub endpoint_of : List ℕ → Option (List ℕ)
endpoint_of text = if is_endpoint text then Some text else None

abbrev pub endpoint_in : List ℕ → Data → Option (List ℕ)
endpoint_in name d = option_and_then endpoint_of (text_in name d)

-- ---- the configuration

abbrev pub or_wrong : {X : Type 0} → ConfigField → Option X → Result X ConfigFault
or_wrong name None = Err (fault.Field name)
or_wrong name (Some x) = Ok x

-- what is read of a field, which has to be there and of its kind
abbrev pub required : {X : Type 0} → ConfigField → (List ℕ → Data → Option X) → Data → Result X ConfigFault
required name kind d = or_wrong name (kind (name_of name) d)

-- the first field that isn't as it has to be is told
unfoldable pub config_of_value : Data → Result Config ConfigFault
config_of_value d = do
  token ← required field.TokenKey bytes_in d
  link ← required field.LinkKey bytes_in d
  admin ← required field.AdminDigest bytes_in d
  providers ← required field.ProviderDigests digests_in d
  ttl ← required field.LinkTtlSeconds ttl_in d
  endpoint ← required field.Endpoint endpoint_in d
  Ok (record { keys = record { token = token; link = link; ttl = ttl; endpoint = endpoint }; admin = admin; providers = providers })

abbrev pub config_of_tree : Result Data TreeFault → Result Config ConfigFault
config_of_tree (Ok d) = config_of_value d
config_of_tree (Err e) = Err fault.NotJson

-- the configuration that bytes state, or why they state none
abbrev pub config_in : List ℕ → Result Config ConfigFault
config_in bytes = config_of_tree (tree_in bytes)

abbrev pub lacks_memory : ConfigFault → Bool
lacks_memory fault.NotJson = false
lacks_memory (fault.Field name) = false
lacks_memory fault.NoMemory = true

-- The answer, seen by `seen`, is what was read, or why nothing is. Want of memory says nothing.
abbrev pub GivesBy : {X Y : Type 0} → (X → Y) → Result X ConfigFault → Result Y ConfigFault → Type 0
GivesBy seen result read = AnswersBy lacks_memory seen result read

abbrev pub Gives : {X : Type 0} → Result X ConfigFault → Result X ConfigFault → Type 0
Gives result read = GivesBy (λ x. x) result read
