-- The names of the records of a catalogue's log.
use Rattle.std.specs.Prelude.{ℕ, ◌-◌, List, ◌++◌, length, replicate, codes}
use Rattle.std.specs.Fmt.{decimal}

-- a record's number in 20 decimal digits, and `.json`
abbrev pub segment_of : ℕ → List ℕ
segment_of number = replicate (20 - length (decimal number)) 48 ++ decimal number ++ codes ".json"

-- the name of a record, which is counted from 0
abbrev pub record_name_of : ℕ → List ℕ
record_name_of number = codes "_share_log" ++ codes "/" ++ segment_of number
