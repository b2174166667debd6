-- How far a page is filled.
use Rattle.std.specs.Prelude.{◌≡◌, ℕ, ◌≤◌, ◌<◌, List, Bool, false, Option, Some, None, length, map, nat_le}
use Rattle.log_actions.specs.declared.actions.AddFile.{AddFile}
use Rattle.share_reply.specs.Pages.{given, next_place}
use Rattle.share_reply.specs.declared.cut.FilesCut.{FilesCut}

-- no more may be given
abbrev pub is_full : ℕ → Option ℕ → Bool
is_full count None = false
is_full count (Some most) = nat_le most count

-- what was cut of a list, and where the next page begins, are those of the page from a place of the list on
pub record IsCut {X : Type 0} (test : X → Bool) (most : Option ℕ) (place : ℕ) (xs found : List X) (next : Option ℕ) : Type 0 where
  pub within : place ≤ length xs
  pub found_is : found ≡ given test most place xs
  pub next_is : next ≡ next_place test most place xs

-- the same of files, none where the place is behind all of them
abbrev pub IsCutOf : (AddFile → Bool) → Option ℕ → ℕ → List AddFile → Option FilesCut → Type 0
IsCutOf test most place files None = length files < place
IsCutOf test most place files (Some c) = IsCut test most place files (map (λ f. f.now) c.files.items) c.next
