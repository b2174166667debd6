-- Laws of files that are fetched in pieces.
use Rattle.std.specs.Prelude.{◌≡◌, ◌<◌, ℕ, ◌+◌, ◌-◌, List, length}
use Rattle.std.specs.List.{concat, flat_map, range_with_len}
use Rattle.file_ranges.specs.Ranges.{Range}
use Rattle.share_client.specs.Pieces.{Came, piece_range, pieces_in}
use Rattle.share_client.specs.Sides.{Side}
use Rattle.share_client.specs.declared.target.Target.{Target}

-- the places of a range's bytes
abbrev pub places : Range → List ℕ
places range = range_with_len range.first (range.last + 1 - range.first)

-- The ranges that are asked for have each place of the file once, in order, and no other.
abbrev pub PiecesCover : Type 0
PiecesCover = (piece size : ℕ) → 0 < piece → flat_map (λ k. places (piece_range piece size k)) (range_with_len 0 (pieces_in piece size)) ≡ range_with_len 0 size

-- What came of all of them is as long as the file was said to be.
abbrev pub PiecesAreWhole : Type 0
PiecesAreWhole =
    (target : Target) (piece size : ℕ) (given : List (List ℕ)) (old new : Side)
    → 0 < piece → Came target piece size 0 given old new → length given ≡ pieces_in piece size → length (concat given) ≡ size
