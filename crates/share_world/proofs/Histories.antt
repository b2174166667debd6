-- What entries change of what a history says.
use Rattle.std.proofs.Common.{◌≡◌, ◌≢◌, ℕ, ◌+◌, ◌==◌, false, List, [], ◌∷◌, ◌++◌, Option, None, sym, ap, ◌∙◌}
use Rattle.std.specs.List.{filter_map}
use Rattle.std.specs.Option.{option_and_then, option_map}
use Rattle.std.proofs.lemmas.Bool.{ne_eqb}
use Rattle.share_book.specs.History.{block_of, block_on, commit_of, commit_on, open_on, starts, table_on, turn_of}
use Rattle.share_book.specs.Legal.{is_at}
use Rattle.share_book.specs.Views.{Log, log_at, seen_log}
use Rattle.share_book.specs.declared.entry.Entry.{Entry}
use Rattle.share_book.proofs.Pushes.{elsewhere}
use Rattle.share_book.proofs.Words.{open_same, quiet}
use Rattle.std.specs.List.{position}

-- two entries that say nothing
pub two_quiet : {Y : Type 0} (f : Entry → Option Y) (h : List Entry) (a b : Entry) → f a ≡ None → f b ≡ None → filter_map f ((h ++ a ∷ []) ++ b ∷ []) ≡ filter_map f h
two_quiet f h a b x y = quiet f (h ++ a ∷ []) b y ∙ quiet f h a x

-- three
pub three_quiet : {Y : Type 0} (f : Entry → Option Y) (h : List Entry) (a b c : Entry) → f a ≡ None → f b ≡ None → f c ≡ None → filter_map f (((h ++ a ∷ []) ++ b ∷ []) ++ c ∷ []) ≡ filter_map f h
three_quiet f h a b c x y z = quiet f ((h ++ a ∷ []) ++ b ∷ []) c z ∙ two_quiet f h a b x y

-- the log of the place at which a location stands
abbrev pub log_by : List Entry → Option ℕ → Log
log_by h place = seen_log (option_and_then (λ number. table_on number h) (option_map (λ i. i + 1) place))

pub log_placed : (h : List Entry) (l : List ℕ) (o : Option ℕ) → position (is_at l) (starts h) ≡ o → log_at h l ≡ log_by h o
log_placed h l o is = ap (log_by h) is

-- an entry on another log
pub other_log : (i j : ℕ) → i ≢ j → (j == i) ≡ false
other_log i j apart = ne_eqb j i (λ e. apart (sym e))

pub commit_elsewhere : (i : ℕ) (e : Entry) → (e.log == i) ≡ false → commit_on i e ≡ None
commit_elsewhere i e other = elsewhere i e (commit_of e.act) other

pub block_elsewhere : (i : ℕ) (e : Entry) → (e.log == i) ≡ false → block_on i e ≡ None
block_elsewhere i e other = elsewhere i e (block_of e.act) other

pub open_elsewhere : (i : ℕ) (h : List Entry) (e : Entry) → (e.log == i) ≡ false → open_on i (h ++ e ∷ []) ≡ open_on i h
open_elsewhere i h e other = open_same i h e (elsewhere i e (turn_of e.caller e.act) other)
