-- What an error body is taken for before it is spelled again.
use Rattle.std.specs.Prelude.{ℕ, List, Bool, ◌&&◌, Option, Some, None, Result, Ok, Err, length, take, drop, bytes_eq, codes, if◌then◌else◌}
use Rattle.std.specs.Str.{is_utf8}
use Rattle.serde_json.specs.Data.{Data}
use Rattle.serde_json.specs.Find.{as_str}
use Rattle.json_tree.specs.Fields.{present}
use Rattle.json_tree.specs.Tree.{tree_in}
use Rattle.json_tree.specs.declared.tree.TreeFault.{TreeFault}
use Rattle.case_table.specs.Refusals.{refusal_of_word, refusal_row}
use Rattle.case_table.specs.declared.refuse.Refusal.{Refusal}
use Rattle.share_lines.specs.Errors.{error_body, takes_detail}
use Rattle.json_tree.specs.Options.{◌>>=◌}

abbrev pub text_in : List ℕ → Data → Option (List ℕ)
text_in name d = present name d >>= as_str

-- what stands behind a front
abbrev pub behind : List ℕ → List ℕ → Option (List ℕ)
behind front text = if bytes_eq (take (length front) text) front then Some (drop (length front) text) else None

-- a text of the bytes
abbrev pub as_text : List ℕ → Option (List ℕ)
as_text bytes = if is_utf8 bytes then Some bytes else None

-- the detail behind a refusal's fixed words
unfoldable pub detail_in : Refusal → List ℕ → Option (List ℕ)
detail_in refusal message = behind (refusal_row refusal).message message >>= as_text

-- the refusal of a word
unfoldable pub refusal_by_word : List ℕ → Option Refusal
refusal_by_word word = refusal_of_word word

-- the refusal and the detail
abbrev pub guessed : Data → Option (Refusal × List ℕ)
guessed d = do
  word ← text_in (codes "errorCode") d
  message ← text_in (codes "message") d
  refusal ← refusal_by_word word
  detail ← detail_in refusal message
  Some (refusal, detail)

abbrev pub guess_of_tree : Result Data TreeFault → Option (Refusal × List ℕ)
guess_of_tree (Ok d) = guessed d
guess_of_tree (Err e) = None

abbrev pub guess_in : List ℕ → Option (Refusal × List ℕ)
guess_in bytes = guess_of_tree (tree_in bytes)

-- whether the bytes are the body of that refusal with that detail
abbrev pub is_spelt : Refusal → List ℕ → List ℕ → Bool
is_spelt refusal detail bytes = takes_detail refusal detail && bytes_eq (error_body refusal detail) bytes
