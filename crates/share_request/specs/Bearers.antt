-- The bearer token of a request (RFC 6750, section 2.1; RFC 9110, sections 11.4 and 11.6.2).
use Rattle.std.specs.Prelude.{ℕ, Bool, ◌&&◌, ◌==◌, List, [], ◌∷◌, Option, Some, None, length, take, drop, option_map, nat_le, nat_lt, count_by, if◌then◌else◌, codes}
use Rattle.std.specs.List.{list_all}
use Rattle.sha2.specs.Sha256.{sha256}
use Rattle.http_message.specs.Fields.{first_named, is_named, same_text}
use Rattle.http_message.specs.Framing.{Pairs}

-- `!` to `~`
abbrev pub is_visible : ℕ → Bool
is_visible b = nat_le 33 b && nat_le b 126

-- 1 to 512 visible ASCII bytes, which is a bound of our own
abbrev pub is_token : List ℕ → Bool
is_token text = nat_lt 0 (length text) && nat_le (length text) 512 && list_all is_visible text

abbrev pub skip_spaces : List ℕ → List ℕ
skip_spaces [] = []
skip_spaces (b ∷ bytes) = if b == 32 then skip_spaces bytes else b ∷ bytes

abbrev pub if_token : List ℕ → Option (List ℕ)
if_token text = if is_token text then Some text else None

-- the token behind one space or more
abbrev pub behind_spaces : List ℕ → Option (List ℕ)
behind_spaces [] = None
behind_spaces (b ∷ bytes) = if b == 32 then if_token (skip_spaces bytes) else None

-- the token of a value that is `Bearer`, in any case, and then one
abbrev pub token_in : List ℕ → Option (List ℕ)
token_in value =
    if nat_lt (length value) 6 then None
    else if same_text (take 6 value) (codes "bearer") then behind_spaces (drop 6 value) else None

-- the digest of the token, where there is exactly one Authorization field, with one
abbrev pub bearer_in : Pairs → Option (List ℕ)
bearer_in fields =
    if count_by (is_named (codes "authorization")) fields == 1
    then option_map sha256 (token_in (first_named (codes "authorization") fields))
    else None
