-- Where connections go: a host and a port (RFC 3986, section 3.2).
use Rattle.std.specs.Prelude.{ℕ, ◌==◌, List, length, Option, Some, None, nat_lt, option_map, if◌then◌else◌}
use Rattle.std.specs.List.{position_or_len, before_first, after_first}
use Rattle.text_forms.specs.Numbers.{number_in}
use Rattle.json_tree.specs.Options.{◌>>=◌}
use Rattle.bucket_config.specs.Words.{if_word}
use Rattle.bucket_config.specs.declared.address.BucketAddress.{BucketAddress}

-- what comes before the first byte c, and what comes after it
unfoldable pub cut : ℕ → List ℕ → Option (List ℕ × List ℕ)
cut c text =
    if nat_lt (position_or_len (λ b. b == c) text) (length text)
    then Some (before_first (λ b. b == c) text, after_first (λ b. b == c) text)
    else None

abbrev pub port_of : List ℕ → Option ℕ
port_of text = number_in 1 65535 text

-- 58 is `:`
abbrev pub parts_of : List ℕ → Option (List ℕ × ℕ)
parts_of text = do
  parts ← cut 58 text
  host ← if_word parts.0
  port ← port_of parts.1
  Some (host, port)

abbrev pub address_of : List ℕ → Option BucketAddress
address_of text = option_map (λ parts. record { host = parts.0; port = parts.1 }) (parts_of text)
