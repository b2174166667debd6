-- The names of shares, schemas, tables and recipients. Delta Sharing PROTOCOL.md, "Concepts", leaves
-- their bytes to the server: these stand in a URL's path as they are.
use Rattle.std.specs.Prelude.{ℕ, List, ◌&&◌, ◌||◌, ◌==◌, Bool, length, nat_le, nat_lt}
use Rattle.std.specs.List.{list_all}

-- `a` to `z`, `0` to `9`, `_`, `-` and `.`
abbrev pub is_name_byte : ℕ → Bool
is_name_byte b = (nat_le 97 b && nat_le b 122) || ((nat_le 48 b && nat_le b 57) || ((b == 95) || ((b == 45) || (b == 46))))

-- 1 to 128 of these bytes
abbrev pub is_catalog_name : List ℕ → Bool
is_catalog_name bytes = nat_lt 0 (length bytes) && (nat_le (length bytes) 128 && list_all is_name_byte bytes)
