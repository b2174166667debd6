-- What stands at the front of a stream as a head, of a request or of a response (RFC 9112, sections 2.1 and 2.2).
use Rattle.std.specs.Prelude.{◌≡◌, ℕ, ◌⊎◌, Bool, false, ◌==◌, nat_lt, nat_le, List, length, take, drop, Option, Some, None, MatchBool, MatchOption, if◌then◌else◌}
use Rattle.http_message.specs.Ends.{blank_len, IsFirstEnd, TellsEnd, line_count}
use Rattle.http_message.specs.declared.refusal.Flaw.{Flaw}
use Rattle.http_message.specs.declared.refusal.Flaw.TheVariants.{BadMessage, HeadTooLarge}

-- A head with what stands behind it; nothing, where only empty lines are left; a head that the stream ends inside; a refusal.
-- H is what is kept of a head.
pub data HeadReading (H : Type 0) : Type 0 where
  headed : H → List ℕ → HeadReading H
  nothing : HeadReading H
  cut : HeadReading H
  faulty : Flaw → HeadReading H

-- the head that the whole text is by the grammar IsText, or none where it is no head
abbrev pub TellsHeadText : {H : Type 0} → (List ℕ → H → Type 0) → List ℕ → Option H → Type 0
TellsHeadText {H} IsText text found = MatchOption found ((head : H) → ¬ (IsText text head)) (IsText text)

-- more than 64 field lines, between the first line and the empty line
abbrev pub has_many_lines : List ℕ → Bool
has_many_lines text = nat_lt 66 (line_count (drop (blank_len text) text))

-- by the grammar, IsText: which texts are heads, and what is kept of them
abbrev pub ReadsHeadText : {H : Type 0} → (List ℕ → H → Type 0) → (text rest : List ℕ) → HeadReading H → Type 0
ReadsHeadText {H} IsText text rest reading =
    MatchBool (has_many_lines text) (reading ≡ faulty HeadTooLarge)
    (((head : H) × IsText text head × (reading ≡ headed head rest))
    ⊎ (((head : H) → ¬ (IsText text head)) × (reading ≡ faulty BadMessage)))

-- where no head ends within the most
abbrev pub headless : {H : Type 0} → ℕ → List ℕ → HeadReading H
headless most stream =
    if nat_le most (length stream) then faulty HeadTooLarge
    else if blank_len stream == length stream then nothing else cut

-- by where the first empty line behind the empty lines in front ends
abbrev pub ReadsHeadTo : {H : Type 0} → (List ℕ → H → Type 0) → ℕ → List ℕ → Option ℕ → HeadReading H → Type 0
ReadsHeadTo IsText most stream None reading = reading ≡ headless most stream
ReadsHeadTo IsText most stream (Some end) reading = ReadsHeadText IsText (take end stream) (drop end stream) reading

-- the head ends within the first `most` bytes, the empty lines in front included
abbrev pub ReadsHead : {H : Type 0} → (List ℕ → H → Type 0) → ℕ → List ℕ → HeadReading H → Type 0
ReadsHead IsText most stream reading =
    (found : Option ℕ) × TellsEnd (take most stream) (blank_len (take most stream)) found × ReadsHeadTo IsText most stream found reading

-- the text is a head behind empty lines: it ends with its first empty line, and has at most 64 field lines
pub record IsWholeHead {H : Type 0} (IsText : List ℕ → H → Type 0) (text : List ℕ) (head : H) : Type 0 where
  pub ends : IsFirstEnd text (blank_len text) (length text)
  pub few : has_many_lines text ≡ false
  pub is : IsText text head
