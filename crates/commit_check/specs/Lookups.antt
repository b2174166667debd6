-- What the code looks up.
use Rattle.std.specs.Prelude.{◌≡◌, ℕ, ◌||◌, List, Bool, false, Option, Some, None, bytes_eq}
use Rattle.std.specs.List.{find}
use Rattle.std.specs.Borrow.{Bor}
use Rattle.std.specs.BTreeMap.{BTreeMap}
use Rattle.log_actions.specs.declared.actions.AddFile.{AddFile}
use Rattle.log_actions.specs.declared.actions.MetaData.{MetaData}
use Rattle.log_commit.specs.Passes.{holds}
use Rattle.pred_tree.specs.Listing.{passes}
use Rattle.pred_tree.specs.declared.filter.Filter.{Filter}
use Rattle.commit_check.specs.Offers.{is_read}
use Rattle.commit_check.specs.declared.offer.Reads.{Reads}

-- whether there is a text, and a set has it
abbrev pub has_one : BTreeMap (Bor (List ℕ)) (Unit {0}) → Option (List ℕ) → Bool
has_one texts None = false
has_one texts (Some text) = holds texts text

-- whether a set has a text once another, if there is one, was put in
abbrev pub puts_one : BTreeMap (Bor (List ℕ)) (Unit {0}) → Option (List ℕ) → List ℕ → Bool
puts_one texts None q = holds texts q
puts_one texts (Some text) q = bytes_eq text q || holds texts q

-- the file of a path
abbrev pub file_at : List AddFile → List ℕ → Option AddFile
file_at files path = find (λ f. bytes_eq f.path path) files

-- the filter lists what counts as read; without one nothing does
abbrev pub IsFilterOf : Reads → MetaData → Option Filter → Type 0
IsFilterOf reads meta None = (file : AddFile) → is_read reads meta file ≡ false
IsFilterOf reads meta (Some f) = (file : AddFile) → passes f file ≡ is_read reads meta file
