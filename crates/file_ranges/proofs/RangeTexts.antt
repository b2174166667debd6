-- How long the text of a part is.
use Rattle.std.proofs.Common.{ℕ, ◌<◌, ◌≤◌, ◌^◌, ◌++◌, length, length-append, decimal, codes, arith}
use Rattle.std.proofs.lemmas.Fmt.{length-decimal-le}
use Rattle.file_ranges.specs.Ranges.{Range, range_text}

number_short : (n : ℕ) → n < 2 ^ 64 → length (decimal n) ≤ 20
number_short n small = length-decimal-le 20 n (omega arith) (omega (arith, small)) small

-- the three numbers, and nine bytes besides
pub range_text_short : (r : Range) → r.first < 2 ^ 64 → r.last < 2 ^ 64 → r.size < 2 ^ 64 → length (range_text r) ≤ 68
range_text_short r first last size =
    let behind_last = codes "/" ++ decimal r.size in
    let behind_first = codes "-" ++ (decimal r.last ++ behind_last) in
    omega (
      arith,
      length-append (codes "bytes ") (decimal r.first ++ behind_first),
      length-append (decimal r.first) behind_first,
      length-append (codes "-") (decimal r.last ++ behind_last),
      length-append (decimal r.last) behind_last,
      length-append (codes "/") (decimal r.size),
      number_short r.first first,
      number_short r.last last,
      number_short r.size size,
    )
