-- The names of stored objects.
use Rattle.std.specs.Prelude.{ℕ, ◌&&◌, ◌==◌, List, Bool, not, length, nat_lt, nat_le, bytes_eq, codes}
use Rattle.std.specs.List.{slice_split, list_all, list_any}

-- 47 is `/`
abbrev pub has_slash : List ℕ → Bool
has_slash bytes = list_any (λ b. b == 47) bytes

abbrev pub has_zero : List ℕ → Bool
has_zero bytes = list_any (λ b. b == 0) bytes

-- a part of a name: not empty, `.` or `..`
abbrev pub is_segment : List ℕ → Bool
is_segment s = nat_lt 0 (length s) && (not (bytes_eq s (codes ".")) && not (bytes_eq s (codes "..")))

-- a segment by itself: without a slash, which would make two of it, and without the byte 0
abbrev pub is_one_segment : List ℕ → Bool
is_one_segment s = is_segment s && (not (has_slash s) && not (has_zero s))

-- the parts between slashes
abbrev pub segments : List ℕ → List (List ℕ)
segments bytes = slice_split (λ b. b == 47) bytes

-- 1 to 1,024 bytes without the byte 0, whose parts are segments
abbrev pub is_name : List ℕ → Bool
is_name bytes = nat_lt 0 (length bytes) && (nat_le (length bytes) 1024 && (not (has_zero bytes) && list_all is_segment (segments bytes)))
