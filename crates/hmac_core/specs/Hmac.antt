-- HMAC (RFC 2104) over SHA-256 (FIPS 180-4), whose blocks have 64 bytes and whose digests 32.
use Rattle.std.specs.Prelude.{ℕ, ◌-◌, ◌==◌, ◌&&◌, ◌||◌, Bool, nat_le, nat_lt, if◌then◌else◌, List, ◌++◌, length, map, replicate, bit_xor}
use Rattle.std.specs.List.{list_all}
use Rattle.sha2.specs.Sha256.{sha256}

-- section 2's K: a key longer than a block is hashed first, and zeros fill it up to a block
abbrev pub block_key : List ℕ → List ℕ
block_key key =
    if nat_lt 64 (length key) then sha256 key ++ replicate 32 0 else key ++ replicate (64 - length key) 0

-- each byte of the block xor the byte of the pad
abbrev pub padded_with : ℕ → List ℕ → List ℕ
padded_with pad block = map (λ b. bit_xor b pad) block

-- section 2: H(K xor opad, H(K xor ipad, text)), where ipad repeats 0x36 and opad 0x5C
abbrev pub hmac : List ℕ → List ℕ → List ℕ
hmac key text =
    sha256 (padded_with 0x5C (block_key key) ++ sha256 (padded_with 0x36 (block_key key) ++ text))

-- `0` to `9` and `a` to `f`: a hexadecimal digit (RFC 4648, section 8), in lower case
abbrev pub is_tag_digit : ℕ → Bool
is_tag_digit b = (nat_le 48 b && nat_le b 57) || (nat_le 97 b && nat_le b 102)

-- two digits for each byte of a tag
abbrev pub are_tag_digits : List ℕ → Bool
are_tag_digits text = (length text == 64) && list_all is_tag_digit text
