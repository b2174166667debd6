-- Which part a request asks for (RFC 9110, sections 14.1.1, 14.1.2 and 14.2).
use Rattle.std.specs.Prelude.{ℕ, ◌==◌, Bool, ◌&&◌, nat_le, List, [], ◌∷◌, Option, Some, None, option_map, option_and_then, take, drop, bytes_eq, codes, count_by, if◌then◌else◌}
use Rattle.http_message.specs.Fields.{first_named, is_named, same_text}
use Rattle.http_message.specs.Framing.{length_in}
use Rattle.http_message.specs.declared.head.Head.{Head}
use Rattle.file_ranges.specs.Pieces.{cut_at}
use Rattle.file_ranges.specs.declared.span.Span.{Span}
use Rattle.file_ranges.specs.declared.span.Span.TheVariants.{From, FromTo, Last}

-- a first and a last place that are in order (section 14.1.1: others are invalid)
abbrev pub from_to : ℕ → ℕ → Option Span
from_to a b = if nat_le a b then Some (FromTo a b) else None

-- `a-b`, `a-` and `-n`, each number of 1 to 18 digits, which is a bound of our own
abbrev pub span_between : List ℕ → List ℕ → Option Span
span_between [] behind = option_map Last (length_in behind)
span_between (d ∷ ds) [] = option_map From (length_in (d ∷ ds))
span_between (d ∷ ds) (e ∷ es) =
    option_and_then (λ a. option_and_then (from_to a) (length_in (e ∷ es))) (length_in (d ∷ ds))

abbrev pub span_at : List ℕ → Option Span
span_at text = option_and_then (λ p. span_between p.0 p.1) (cut_at 45 text)

-- `bytes=`, in any case (section 14.1), and one span; a list of several is read as no span, which section 14.2 allows
abbrev pub span_in : List ℕ → Option Span
span_in value = if same_text (take 6 value) (codes "bytes=") then span_at (drop 6 value) else None

-- GET, exactly one Range and no If-Range; any other Range is passed over, which section 14.2 allows (section 13.1.5 for If-Range)
abbrev pub asks_part : Head → Bool
asks_part head =
    bytes_eq head.method (codes "GET")
    && (count_by (is_named (codes "range")) head.fields == 1)
    && (count_by (is_named (codes "if-range")) head.fields == 0)

abbrev pub span_of : Head → Option Span
span_of head = if asks_part head then span_in (first_named (codes "range") head.fields) else None
