-- Where a bucket is, and the key that signs: a JSON object (RFC 8259) whose members are this server's own, and what the environment gives.
use Rattle.std.specs.Prelude.{ℕ, ℤ, pos, negsuc, nat_le, if◌then◌else◌, List, [], Bool, true, false, Option, Some, None, Result, Ok, Err, option_and_then, option_map, codes}
use Rattle.serde_json.specs.Data.{Data}
use Rattle.serde_json.specs.Find.{as_str}
use Rattle.json_tree.specs.Fields.{present, whole}
use Rattle.json_tree.specs.Gives.{AnswersBy}
use Rattle.json_tree.specs.Results.{◌>>=◌}
use Rattle.json_tree.specs.Tree.{tree_in}
use Rattle.json_tree.specs.declared.tree.TreeFault.{TreeFault}
use Rattle.bucket_config.specs.Addresses.{address_of}
use Rattle.bucket_config.specs.Words.{if_segment, if_some, if_word, prefix_of}
use Rattle.bucket_config.specs.declared.address.BucketAddress.{BucketAddress}
use Rattle.bucket_config.specs.declared.config.BucketConfig.{BucketConfig}
use Rattle.bucket_config.specs.declared.config_fault.BucketConfigFault.{BucketConfigFault}
use Rattle.bucket_config.specs.declared.config_fault.BucketConfigFault.TheVariants as fault
use Rattle.bucket_config.specs.declared.config_fault.BucketField.{BucketField}
use Rattle.bucket_config.specs.declared.config_fault.BucketField.TheVariants as field
use Rattle.bucket_config.specs.declared.given.GivenKey.{GivenKey}

abbrev pub name_of : BucketField → List ℕ
name_of field.Address = codes "address"
name_of field.Bucket = codes "bucket"
name_of field.FreshMillis = codes "freshMillis"
name_of field.Host = codes "host"
name_of field.Key = codes "key"
name_of field.Prefix = codes "prefix"
name_of field.Region = codes "region"
name_of field.Secret = codes "secret"
name_of field.Token = codes "token"

-- ---- the kinds of the members

-- a text that has to be there
abbrev pub text_in : List ℕ → Data → Option (List ℕ)
text_in name d = option_and_then as_str (present name d)

abbrev pub address_in : List ℕ → Data → Option BucketAddress
address_in name d = option_and_then address_of (text_in name d)

abbrev pub segment_in : List ℕ → Data → Option (List ℕ)
segment_in name d = option_and_then if_segment (text_in name d)

abbrev pub word_in : List ℕ → Data → Option (List ℕ)
word_in name d = option_and_then if_word (text_in name d)

-- nothing where it is absent
abbrev pub prefix_or_nothing : Option Data → Option (List ℕ)
prefix_or_nothing None = Some []
prefix_or_nothing (Some d) = option_and_then prefix_of (as_str d)

abbrev pub prefix_in : List ℕ → Data → Option (List ℕ)
prefix_in name d = prefix_or_nothing (present name d)

-- at most a day, in milliseconds
abbrev pub fresh_of : ℤ → Option ℕ
fresh_of (pos n) = if nat_le n 86400000 then Some n else None
fresh_of (negsuc n) = None

-- none where it is absent
abbrev pub fresh_or_none : Option Data → Option ℕ
fresh_or_none None = Some 0
fresh_or_none (Some d) = option_and_then fresh_of (whole d)

abbrev pub fresh_in : List ℕ → Data → Option ℕ
fresh_in name d = fresh_or_none (present name d)

-- ---- the key, of which the environment gives what the object leaves out

abbrev pub stated_or : Option (List ℕ) → Option Data → Option (List ℕ)
stated_or given None = given
stated_or given (Some d) = as_str d

-- the text of a member; where that is absent or null, the one that is given
abbrev pub text_or : Option (List ℕ) → List ℕ → Data → Option (List ℕ)
text_or given name d = stated_or given (present name d)

abbrev pub id_in : GivenKey → List ℕ → Data → Option (List ℕ)
id_in given name d = option_and_then if_word (text_or given.id name d)

abbrev pub secret_in : GivenKey → List ℕ → Data → Option (List ℕ)
secret_in given name d = option_and_then if_some (text_or given.secret name d)

-- a token is good with its own key alone
abbrev pub token_beside : Option (List ℕ) → Option Data → Option (List ℕ)
token_beside token None = token
token_beside token (Some d) = None

abbrev pub given_token : GivenKey → Data → Option (List ℕ)
given_token given d = token_beside given.token (present (name_of field.Key) d)

abbrev pub word_or_nothing : Option (List ℕ) → Option (Option (List ℕ))
word_or_nothing None = Some None
word_or_nothing (Some text) = option_map Some (if_word text)

abbrev pub token_or : Option (List ℕ) → Option Data → Option (Option (List ℕ))
token_or given None = word_or_nothing given
token_or given (Some d) = option_and_then (λ text. word_or_nothing (Some text)) (as_str d)

-- a word or nothing
abbrev pub token_in : GivenKey → List ℕ → Data → Option (Option (List ℕ))
token_in given name d = token_or (given_token given d) (present name d)

-- ---- the whole

abbrev pub or_wrong : {X : Type 0} → BucketField → Option X → Result X BucketConfigFault
or_wrong name None = Err (fault.Field name)
or_wrong name (Some x) = Ok x

-- what is read of a member, which has to be of its kind
abbrev pub required : {X : Type 0} → BucketField → (List ℕ → Data → Option X) → Data → Result X BucketConfigFault
required name kind d = or_wrong name (kind (name_of name) d)

-- the first member that isn't as it has to be is told
unfoldable pub bucket_config_of_value : GivenKey → Data → Result BucketConfig BucketConfigFault
bucket_config_of_value given d = do
  address ← required field.Address address_in d
  bucket ← required field.Bucket segment_in d
  fresh ← required field.FreshMillis fresh_in d
  host ← required field.Host word_in d
  id ← required field.Key (id_in given) d
  prefix ← required field.Prefix prefix_in d
  region ← required field.Region word_in d
  secret ← required field.Secret (secret_in given) d
  token ← required field.Token (token_in given) d
  Ok (record { address = address; place = record { host = host; region = region; bucket = bucket }; key = record { id = id; secret = secret; token = token }; prefix = prefix; fresh = fresh })

abbrev pub config_of_tree : GivenKey → Result Data TreeFault → Result BucketConfig BucketConfigFault
config_of_tree given (Ok d) = bucket_config_of_value given d
config_of_tree given (Err e) = Err fault.NotJson

-- where the bucket is and what signs, by bytes and what the environment gives, or why they don't say it
abbrev pub bucket_config_in : GivenKey → List ℕ → Result BucketConfig BucketConfigFault
bucket_config_in given bytes = config_of_tree given (tree_in bytes)

abbrev pub lacks_memory : BucketConfigFault → Bool
lacks_memory fault.NotJson = false
lacks_memory (fault.Field name) = false
lacks_memory fault.NoMemory = true

-- The answer, seen by `seen`, is what was read, or why nothing is. Want of memory says nothing.
abbrev pub GivesBy : {X Y : Type 0} → (X → Y) → Result X BucketConfigFault → Result Y BucketConfigFault → Type 0
GivesBy seen result read = AnswersBy lacks_memory seen result read

abbrev pub Gives : {X : Type 0} → Result X BucketConfigFault → Result X BucketConfigFault → Type 0
Gives result read = GivesBy (λ x. x) result read
