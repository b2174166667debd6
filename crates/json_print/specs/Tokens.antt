-- What a writer of JSON has taken.
use Rattle.std.specs.Prelude.{◌≡◌, List, [], ◌∷◌, ◌++◌, Some, None}
use Rattle.json.specs.Written.{Written}
use Rattle.json.specs.Token.{Token, key}
use Rattle.json.specs.Tree.{json_tokens}
use Rattle.serde_json.specs.Data.{Data}
use Rattle.serde_json.specs.Written.{outline}
use Rattle.json_print.specs.Fields.{Field}

-- these tokens came in after the former ones
pub record Adds (old new : Written) (added : List Token) : Type 0 where
  pub before : new.before ≡ old.before
  pub tokens : new.tokens ≡ old.tokens ++ added

-- the tokens of a value
abbrev pub value_tokens : Data → List Token
value_tokens d = json_tokens (outline d)

-- the tokens of a field: its name and its value, or nothing
abbrev pub field_tokens : Field → List Token
field_tokens (name, None) = []
field_tokens (name, Some d) = key name ∷ value_tokens d
