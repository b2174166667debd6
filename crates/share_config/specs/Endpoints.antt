-- The address that links begin with (RFC 3986, section 3): a scheme, an authority and the one path, without a query or a fragment.
use Rattle.std.specs.Prelude.{ℕ, ◌==◌, ◌&&◌, ◌||◌, not, Bool, false, nat_le, nat_lt, List, Option, Some, None, length, codes}
use Rattle.std.specs.List.{list_all}
use Rattle.std.specs.Option.{option_or}
use Rattle.json_tree.specs.Options.{◌>>=◌}
use Rattle.share_config.specs.Texts.{after, before}

-- `/`, `?` and `#`, which end an authority (RFC 3986, section 3.2), and `\`, which the URL Standard takes for `/`
abbrev pub is_delimiter : ℕ → Bool
is_delimiter b = (b == 47) || ((b == 92) || ((b == 63) || (b == 35)))

-- a visible byte of ASCII that doesn't end the authority
abbrev pub is_authority_byte : ℕ → Bool
is_authority_byte b = (nat_le 33 b && nat_le b 126) && not (is_delimiter b)

-- a host and perhaps a port, at least one byte, not parsed further
abbrev pub is_authority : List ℕ → Bool
is_authority text = nat_lt 0 (length text) && list_all is_authority_byte text

abbrev pub behind_scheme : List ℕ → Option (List ℕ)
behind_scheme text = option_or (after (codes "http://") text) (after (codes "https://") text)

-- what stands between `http://` or `https://` and `/delta-sharing`, where a text begins and ends so
abbrev pub authority_in : List ℕ → Option (List ℕ)
authority_in text = behind_scheme text >>= before (codes "/delta-sharing")

abbrev pub has_authority : Option (List ℕ) → Bool
has_authority None = false
has_authority (Some text) = is_authority text

-- a text of at most 512 bytes with an authority between the scheme and the path
abbrev pub is_endpoint : List ℕ → Bool
is_endpoint text = nat_le (length text) 512 && has_authority (authority_in text)
