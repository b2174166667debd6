-- What a recipient is shown of what is found in whole logs: what is found in the logs that its view has. So a reply that is made of the one is made of the other.
use Rattle.std.specs.Prelude.{◌≡◌, ℕ, ◌≤◌, ⊤, List, Option, option_map}
use Rattle.share_catalog.specs.Views.{Spot, Who}
use Rattle.share_catalog.specs.declared.edit.Edit.{Edit}
use Rattle.share_book.specs.Looks.{look_of}
use Rattle.share_book.specs.Parts.{found_of}
use Rattle.share_book.specs.Views.{Log, held, shown, shown_log, shown_state, view_as}
use Rattle.share_book.specs.declared.look.Found.{Found}
use Rattle.share_book.specs.declared.look.Found.TheVariants as found
use Rattle.share_book.specs.declared.look.Part.{Part}
use Rattle.share_book.specs.declared.look.PartFound.{PartFound}
use Rattle.share_book.specs.declared.look.PartFound.TheVariants as part_found
use Rattle.share_book.specs.declared.look.Seen.{Seen}
use Rattle.share_book.specs.declared.look.Want.{Want}

-- a part that was found of a whole log, as a restriction shows it
abbrev pub show_part : Option (List ℕ) → PartFound → PartFound
show_part only (part_found.Files version state) = part_found.Files version (shown_state only state)
show_part only found = found

abbrev pub show_found : Found → Found
show_found (found.Table spot p) = found.Table spot (show_part spot.only p)
show_found f = f

-- what was found, as it is shown
abbrev pub show : Seen → Seen
show seen = record seen { found = show_found seen.found }

-- What is found of a log, as it is shown, is what is found of the log that is shown.
abbrev pub ShownPartsAreFound : Type 0
ShownPartsAreFound = (spot : Spot) (log : Log) (p : Part) → show_part spot.only (found_of spot log p) ≡ found_of spot (shown_log spot.only log) p

-- So what is found of what is held, as it is shown, is what is found of what the recipient sees.
abbrev pub LooksAreShown : Type 0
LooksAreShown = (edits : List Edit) (logs : List ℕ → Log) (who : Who) (w : Want) → option_map show (look_of (view_as held edits logs who) w) ≡ look_of (view_as shown edits logs who) w

-- a part is of versions at or after one
abbrev pub IsFrom : ℕ → PartFound → Type 0
IsFrom first (part_found.Version version) = first ≤ version
IsFrom first (part_found.Files version state) = first ≤ version
IsFrom first (part_found.Feed feed) = first ≤ feed.from
IsFrom first found = ⊤

-- No version is found before the first that is shared.
abbrev pub NothingFoundBeforeFirst : Type 0
NothingFoundBeforeFirst = (spot : Spot) (log : Log) (p : Part) → IsFrom spot.first (found_of spot log p)
