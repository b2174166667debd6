-- The lines of a rehearsal's summary.
use Rattle.std.specs.Prelude.{Bool, true, false, ℕ, List, [], ◌∷◌, ◌++◌, ◌≡◌, codes, decimal}
use Rattle.share_loop.specs.declared.summary.ReadCount.{ReadCount}
use Rattle.share_loop.specs.declared.summary.Reads.{Reads}
use Rattle.share_loop.specs.declared.summary.Summary.{Summary}

-- a line and its end, LF
abbrev pub line : List ℕ → List ℕ
line text = text ++ 10 ∷ []

abbrev pub number_line : List ℕ → ℕ → List ℕ
number_line words number = line (words ++ decimal number)

-- how many pages came, how many files they have, and the sum of these files' sizes
abbrev pub read_line : ReadCount → List ℕ
read_line r = line (codes "pages " ++ decimal r.pages ++ codes " files " ++ decimal r.files ++ codes " bytes " ++ decimal r.bytes)

-- the version that was read, what was read of the whole table and of a part of it, and the version at the end
abbrev pub reads_text : Reads → List ℕ
reads_text r = number_line (codes "version ") r.version ++ read_line r.whole ++ read_line r.part ++ number_line (codes "head ") r.head

-- whether the pure machine's replies to the same events were the server's
abbrev pub core_line : Bool → List ℕ
core_line true = line (codes "core equal")
core_line false = line (codes "core differs")

abbrev pub summary_text : Summary → List ℕ
summary_text s = reads_text s.reads ++ core_line s.is_core_equal

-- the text has the lines of some summary
abbrev pub IsSummary : List ℕ → Type 0
IsSummary text = (s : Summary) × (text ≡ summary_text s)
