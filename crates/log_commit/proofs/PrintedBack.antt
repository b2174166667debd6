-- The printed text of a commit is read as the commit.
use Rattle.std.proofs.Common.{◌≡◌, ℕ, ◌+◌, ◌<◌, ◌≤◌, List, [], ◌∷◌, ◌++◌, length, take, get_or, Option, Some, Result, Ok, refl, sym, ap, ◌∙◌, subst, true, false, append_assoc}
use Rattle.std.specs.Prelude.{◌^◌}
use Rattle.std.specs.List.{list_all, list_any}
use Rattle.std.proofs.lemmas.List.{take_all, take_more}
use Rattle.std.proofs.lemmas.Bool.{or_parts}
use Rattle.log_actions.specs.Commits.{IsCommit}
use Rattle.log_actions.specs.Lines.{action_at}
use Rattle.log_actions.specs.Printing.{action_data, has_vector, line_text}
use Rattle.log_actions.specs.declared.actions.Action.{Action}
use Rattle.log_actions.specs.declared.line_fault.LineFault.{LineFault}
use Rattle.json_print.specs.Lines.{lines}
use Rattle.log_commit.specs.Lines.{actions_of, given, is_read}
use Rattle.log_actions.specs.CommitTexts.{commit_text}
use Rattle.log_commit.specs.Texts.{commit_in}
use Rattle.log_commit.specs.Seen.{ReadsBack}
use Rattle.json_print.proofs.Cutting.{first_line}
use Rattle.json_print.proofs.LineFeeds.{text_free}
use Rattle.log_commit.proofs.Whole.{text_gives}

-- each action is read back from its line
abbrev pub AreReadBack : List Action → Type 0
AreReadBack [] = Unit {0}
AreReadBack (a ∷ actions) = ReadsBack a × AreReadBack actions

pub read_back_push : (actions : List Action) (a : Action) → AreReadBack actions → ReadsBack a → AreReadBack (actions ++ a ∷ [])
read_back_push [] a all back = (back, tt)
read_back_push (x ∷ actions) a all back = (all.0, read_back_push actions a all.1 back)

-- the lines of the printed text
record Printed (actions : List Action) (ls : List (List ℕ)) : Type 0 where
  read : list_all is_read ls ≡ true
  gives : actions_of ls ≡ actions

text_lines : (a : Action) (rest : List ℕ) → lines (line_text a ++ 10 ∷ [] ++ rest) ≡ line_text a ∷ lines rest
text_lines a rest = ap lines (append_assoc (line_text a) (10 ∷ []) rest) ∙ first_line (line_text a) rest (text_free (action_data a))

line_given : (a : Action) → action_at (line_text a) ≡ Ok (Some a) → given (line_text a) ≡ Ok (Some a)
line_given a back = back

one_printed : (a : Action) (actions : List Action) (ls : List (List ℕ)) (what : Result (Option Action) LineFault) (line : List ℕ) → given line ≡ Ok (Some a) → Printed actions ls → Printed (a ∷ actions) (line ∷ ls)
one_printed a actions ls what line is p = record { read = rw (is, p.read) refl; gives = rw (is, p.gives) refl }

printed : (actions : List Action) → list_any has_vector actions ≡ false → AreReadBack actions → Printed actions (lines (commit_text actions))
printed [] none all = record { read = refl; gives = refl }
printed (a ∷ actions) none all =
    let parts = or_parts (has_vector a) (list_any has_vector actions) none in
    subst (Printed (a ∷ actions)) (sym (text_lines a (commit_text actions))) (one_printed a actions (lines (commit_text actions)) (Ok (Some a)) (line_text a) (line_given a (all.0 parts.0)) (printed actions parts.1 all.1))

pub text_back : (actions : List Action) → IsCommit actions → AreReadBack actions → list_any has_vector actions ≡ false → length (commit_text actions) ≤ 2 ^ 24 → commit_in (commit_text actions) ≡ Ok actions
text_back actions rules all none fits =
    let p = printed actions none all in
    text_gives (commit_text actions) actions (record { fits = fits; read = p.read; gives = sym p.gives; rules = rules })

pub back_more : (actions : List Action) (i : ℕ) (a : Action) → i < length actions → a ≡ get_or actions i a → AreReadBack (take i actions) → ReadsBack a → AreReadBack (take (i + 1) actions)
back_more actions i a lt is all back =
    subst AreReadBack (ap (λ x. take i actions ++ x ∷ []) is ∙ sym (take_more actions i a lt)) (read_back_push (take i actions) a all back)

-- all lines were printed
pub all_back : (actions : List Action) (n : ℕ) (bytes : List ℕ) → IsCommit actions → length actions ≤ n → bytes ≡ commit_text (take n actions) → AreReadBack (take n actions) → list_any has_vector actions ≡ false → length bytes ≤ 2 ^ 24 → commit_in bytes ≡ Ok actions
all_back actions n bytes rules end so all none fits =
    let whole : take n actions ≡ actions = take_all n actions end in
    let is : bytes ≡ commit_text actions = so ∙ ap commit_text whole in
    ap commit_in is ∙ text_back actions rules (subst AreReadBack whole all) none (subst (λ t. length t ≤ 2 ^ 24) is fits)
