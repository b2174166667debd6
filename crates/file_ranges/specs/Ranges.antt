-- A part of an object, and the text that says which one it is (RFC 9110, sections 14.1.2 and 14.4).
use Rattle.std.specs.Prelude.{◌≡◌, ℕ, ◌+◌, ◌-◌, ◌<◌, ◌≤◌, List, ◌++◌, Option, None, option_map, option_and_then, take, drop, bytes_eq, codes, if◌then◌else◌}
use Rattle.std.specs.Fmt.{decimal}
use Rattle.file_ranges.specs.Pieces.{cut_at}

-- the bytes from the first to the last, both of them included and counted from 0, of an object of so many bytes
pub record Range : Type 0 where
  pub first : ℕ
  pub last : ℕ
  pub size : ℕ

-- there is a byte in it, and each is one of the object's
pub record IsRange (r : Range) : Type 0 where
  pub some : r.first ≤ r.last
  pub within : r.last < r.size

-- the value of Content-Range
abbrev pub range_text : Range → List ℕ
range_text r =
    codes "bytes " ++ (decimal r.first ++ (codes "-" ++ (decimal r.last ++ (codes "/" ++ decimal r.size))))

-- the bytes of the part
abbrev pub bytes_at : Range → List ℕ → List ℕ
bytes_at r bytes = take (r.last + 1 - r.first) (drop r.first bytes)

-- ---- how a text is read

-- the numbers are those of the part, in decimal
pub record IsSpelled (before behind end : List ℕ) (r : Range) : Type 0 where
  pub first : before ≡ decimal r.first
  pub last : behind ≡ decimal r.last
  pub size : end ≡ decimal r.size

-- the texts of the three numbers
abbrev pub pieces_of : List ℕ → Option (List ℕ × List ℕ × List ℕ)
pieces_of bytes =
    if bytes_eq (take 6 bytes) (codes "bytes ")
    then option_and_then (λ p. option_map (λ q. (p.0, q.0, q.1)) (cut_at 47 p.1)) (cut_at 45 (drop 6 bytes))
    else None
