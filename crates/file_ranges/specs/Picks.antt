-- What is sent of an object (RFC 9110, sections 14.1.2, 14.2 and 15.5.17).
use Rattle.std.specs.Prelude.{◌≡◌, ℕ, ◌+◌, ◌-◌, ◌==◌, ◌&&◌, nat_le, nat_lt, min, List, [], length, take, drop, Option, Some, None, if◌then◌else◌}
use Rattle.file_ranges.specs.Ranges.{Range, bytes_at}
use Rattle.file_ranges.specs.declared.span.Span.{Span}
use Rattle.file_ranges.specs.declared.span.Span.TheVariants.{From, FromTo, Last}
use Rattle.file_ranges.specs.declared.pick.Picked.{Picked}
use Rattle.file_ranges.specs.declared.pick.Picked.TheVariants.{Whole, Part, Out}

abbrev pub part : ℕ → ℕ → ℕ → Picked
part a b size = Part (record { first = a; last = b; size = size })

-- of an object that isn't empty; the last byte is at most the object's own, and more than all of the last bytes are all
abbrev pub pick_in : Span → ℕ → Picked
pick_in (FromTo a b) size = if nat_le a b && nat_lt a size then part a (min b (size - 1)) size else Out
pick_in (From a) size = if nat_lt a size then part a (size - 1) size else Out
pick_in (Last n) size = if nat_lt 0 n then part (size - n) (size - 1) size else Out

-- an empty object is sent whole whatever is asked, which is a choice of our own
abbrev pub pick : Option Span → ℕ → Picked
pick None size = Whole
pick (Some span) size = if size == 0 then Whole else pick_in span size

abbrev pub IfPart : Picked → (Range → Type 0) → Type 0
IfPart Whole P = Unit {0}
IfPart (Part r) P = P r
IfPart Out P = Unit {0}

-- ---- a law

-- those of the bytes that the span asks for: from a place to another, from a place on, or the last ones
abbrev pub asked : Span → List ℕ → List ℕ
asked (FromTo a b) bytes = take (b + 1 - a) (drop a bytes)
asked (From a) bytes = drop a bytes
asked (Last n) bytes = drop (length bytes - n) bytes

-- a part has the bytes that are asked for; all is sent only of an empty object, and `Out` says that none is asked for
abbrev pub HasAsked : Span → List ℕ → Picked → Type 0
HasAsked span bytes Whole = bytes ≡ []
HasAsked span bytes (Part r) = bytes_at r bytes ≡ asked span bytes
HasAsked span bytes Out = asked span bytes ≡ []
