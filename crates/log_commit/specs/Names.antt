-- The names of a table's commits (Delta Lake PROTOCOL.md, "Delta Log Entries").
use Rattle.std.specs.Prelude.{◌≡◌, ℕ, ◌-◌, ◌^◌, ◌<◌, ◌&&◌, ◌==◌, List, ◌++◌, length, take, drop, replicate, Bool, Option, Some, None, nat_le, nat_lt, bytes_eq, codes, if◌then◌else◌}
use Rattle.std.specs.List.{list_all}
use Rattle.std.specs.Char.{is_ascii_digit}
use Rattle.std.specs.Fmt.{decimal}
use Rattle.std.specs.Str.Parse.{digits_value}

-- the folder of the log of the table at a location
abbrev pub folder : List ℕ → List ℕ
folder location = location ++ codes "/" ++ codes "_delta_log"

-- the last segment of a version's name: the version in 20 decimal digits, and `.json`
abbrev pub segment_of : ℕ → List ℕ
segment_of version = replicate (20 - length (decimal version)) 48 ++ decimal version ++ codes ".json"

-- the bytes of the name of a version's commit
abbrev pub commit_name : List ℕ → ℕ → List ℕ
commit_name location version = folder location ++ codes "/" ++ segment_of version

-- the name of a version's commit, where it has at most 1,024 bytes
abbrev pub name_of : List ℕ → ℕ → Option (List ℕ)
name_of location version = if nat_le (length (commit_name location version)) 1024 then Some (commit_name location version) else None

-- whether a last segment names a commit: 20 decimal digits that write a number below 2^63, and `.json`
abbrev pub is_commit_segment : List ℕ → Bool
is_commit_segment s = (length s == 25) && (bytes_eq (drop 20 s) (codes ".json") && (list_all is_ascii_digit (take 20 s) && nat_lt (digits_value 10 (take 20 s)) (2 ^ 63)))

-- the version that a last segment names
abbrev pub version_of : List ℕ → Option ℕ
version_of s = if is_commit_segment s then Some (digits_value 10 (take 20 s)) else None

-- the segment is that of the version
abbrev pub IsSegmentOf : List ℕ → ℕ → Type 0
IsSegmentOf s version = (version < 2 ^ 63) × (s ≡ segment_of version)
