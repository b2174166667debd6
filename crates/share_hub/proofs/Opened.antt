-- What the passes of a hub that was opened know.
use Rattle.std.proofs.Common.{◌≡◌, ℕ, ◌+◌, ◌<◌, List, [], ◌∷◌, length, slice_index_or, ◌∙◌, sym, subst, arith}
use Rattle.std.specs.Prelude.{All}
use Rattle.std.proofs.lemmas.List.Elements.{All-nil, All-cons}
use Rattle.turn_cell.specs.Entries.{IsHistory}
use Rattle.turn_cell.specs.Passes.{AllFresh, CellId, fresh}
use Rattle.share_book.specs.declared.entry.Entry.{Entry}
use Rattle.share_book.specs.History.{caller_of}
use Rattle.share_book.specs.Legal.{May}
use Rattle.hub_calls.specs.Calls.{IsKnown, P}

-- the first of them is new
first_fresh : (cell : CellId) (h : List Entry) (ps : List P) (p : P) → AllFresh cell h 0 ps → 0 < length ps → slice_index_or ps 0 p ≡ fresh cell 0 h
first_fresh cell h [] p all some = absurd (omega (arith, some))
first_fresh cell h (q ∷ qs) p all some = all.0

known_each : (cell : CellId) (h : List Entry) (n : ℕ) (ps : List P) → AllFresh cell h n ps → IsHistory caller_of May cell.callers h → All IsKnown ps
known_each cell h n [] all known = All-nil IsKnown
known_each cell h n (p ∷ ps) all known = All-cons IsKnown p ps (subst IsKnown (sym all.0) known) (known_each cell h (n + 1) ps all.1 known)

-- what the first of them knows each of them knows
pub all_known : (cell : CellId) (h : List Entry) (ps : List P) (first : P) → AllFresh cell h 0 ps → 0 < length ps → first ≡ slice_index_or ps 0 first → IsKnown first → All IsKnown ps
all_known cell h ps first all some is known = known_each cell h 0 ps all (subst IsKnown (is ∙ first_fresh cell h ps first all some) known)
