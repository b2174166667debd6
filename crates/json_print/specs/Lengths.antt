-- How long the text of tokens is, as far as 64 bits can tell.
use Rattle.std.specs.Prelude.{◌≡◌, ℕ, ◌+◌, ◌-◌, ◌^◌, ◌++◌, min, List, false, fold, length}
use Rattle.json.specs.Token.{Token}
use Rattle.json.specs.Print.{ends, separator, token_text}
use Rattle.json_print.specs.declared.lengths.Length.{Length}

-- a length, or 2^64 - 1 where it is more
abbrev pub capped : ℕ → ℕ
capped n = min n (2 ^ 64 - 1)

-- before the first token
abbrev pub nothing : Length
nothing = record { bytes = 0; after_value = false }

-- with a token, and a comma before it where it needs one
abbrev pub with_token : Length → Token → Length
with_token at t = record { bytes = capped (at.bytes + length (separator at.after_value t ++ token_text t)); after_value = ends t }

-- these tokens were counted after the former ones
abbrev pub Counts : Length → Length → List Token → Type 0
Counts old new added = new ≡ fold with_token old added
