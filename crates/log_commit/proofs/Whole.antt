-- The first fault of a text, as the passes find it.
use Rattle.std.proofs.Common.{◌≡◌, ℕ, suc, ◌+◌, ◌<◌, ◌≤◌, List, [], ◌∷◌, ◌++◌, length, get_or, Option, Some, None, Result, Ok, Err, IfOk, is_ok, refl, sym, ap, ◌∙◌, subst, Bool, true, false, cond, arith, tests, true≢false, nat_le, append_assoc, length-append}
use Rattle.std.specs.Prelude.{◌&&◌, ◌^◌, filter_map}
use Rattle.std.specs.List.{cons_option, list_all}
use Rattle.std.proofs.lemmas.Bool.{le-leb}
use Rattle.std.proofs.lemmas.List.{append-nil, take_at}
use Rattle.std.proofs.lemmas.List.Elements.{filter_map-append}
use Rattle.log_actions.specs.Commits.{IsCommit}
use Rattle.log_actions.specs.declared.actions.Action.{Action}
use Rattle.log_actions.specs.declared.line_fault.LineFault.{LineFault}
use Rattle.json_print.specs.Lines.{lines}
use Rattle.log_commit.specs.Lines.{actions_of, action_or_none, given, is_read, line_action}
use Rattle.log_commit.specs.Texts.{Answers, IsCommitText, commit_in, fault_at, fault_given, faults, places, unless_faulty}
use Rattle.log_commit.specs.Rules.{broken_rule, first_broken, or_else}
use Rattle.log_commit.specs.Passes.{action_first, fault_first, line_fault, number_first, read_actions, read_numbers}
use Rattle.log_commit.specs.Seen.{AreRead}
use Rattle.log_commit.specs.declared.faults.CommitFault.{CommitFault}
use Rattle.log_commit.specs.declared.faults.NoCommit.{NoCommit}
use Rattle.log_commit.specs.declared.faults.CommitFault.TheVariants as fault
use Rattle.log_commit.specs.declared.lines.Found.{Found}
use Rattle.log_commit.proofs.CommitRules.{commit_unbroken, unbroken_commit}

abbrev head : List CommitFault → Option CommitFault
head [] = None
head (e ∷ es) = Some e

-- the first fault from line n on, after the actions in front
abbrev first_fault : ℕ → List Action → List (List ℕ) → Option CommitFault
first_fault n front [] = None
first_fault n front (l ∷ ls) = or_else (fault_given n front (given l)) (first_fault (n + 1) (front ++ cons_option (line_action l) []) ls)

head_first : (o : Option CommitFault) (es : List CommitFault) → head (cons_option o es) ≡ or_else o (head es)
head_first None es = refl
head_first (Some e) es = refl

get_at : (fs ls : List (List ℕ)) (l : List ℕ) → get_or (fs ++ l ∷ ls) (length fs) [] ≡ l
get_at [] ls l = refl
get_at (f ∷ fs) ls l = get_at fs ls l

fault_here : (fs ls : List (List ℕ)) (l : List ℕ) → fault_at (fs ++ l ∷ ls) (length fs) ≡ fault_given (length fs + 1) (actions_of fs) (given l)
fault_here fs ls l = rw (take_at fs (l ∷ ls) (length fs) refl, get_at fs ls l) refl

-- the faults at places are met in order
faults_from : (fs ls : List (List ℕ)) → head (filter_map (fault_at (fs ++ ls)) (places (length fs) (length ls))) ≡ first_fault (length fs + 1) (actions_of fs) ls
faults_from fs [] = refl
faults_from fs (l ∷ ls) =
    let whole : fs ++ l ∷ ls ≡ (fs ++ l ∷ []) ++ ls = sym (append_assoc fs (l ∷ []) ls) in
    let long : length (fs ++ l ∷ []) ≡ suc (length fs) = length-append fs (l ∷ []) ∙ omega arith in
    let more : head (filter_map (fault_at (fs ++ l ∷ ls)) (places (suc (length fs)) (length ls))) ≡ first_fault (length fs + 1 + 1) (actions_of fs ++ cons_option (line_action l) []) ls
    = ap (λ w. head (filter_map (fault_at w) (places (suc (length fs)) (length ls)))) whole
    ∙ ap (λ k. head (filter_map (fault_at ((fs ++ l ∷ []) ++ ls)) (places k (length ls)))) (sym long)
    ∙ faults_from (fs ++ l ∷ []) ls
    ∙ ap (λ k. first_fault (k + 1) (actions_of (fs ++ l ∷ [])) ls) (long ∙ omega arith)
    ∙ ap (λ front. first_fault (length fs + 1 + 1) front ls) (filter_map-append line_action fs (l ∷ [])) in
    head_first (fault_at (fs ++ l ∷ ls) (length fs)) (filter_map (fault_at (fs ++ l ∷ ls)) (places (suc (length fs)) (length ls)))
    ∙ ap (λ o. or_else o (head (filter_map (fault_at (fs ++ l ∷ ls)) (places (suc (length fs)) (length ls))))) (fault_here fs ls l)
    ∙ ap (or_else (fault_given (length fs + 1) (actions_of fs) (given l))) more

or_assoc : (o p q : Option CommitFault) → or_else o (or_else p q) ≡ or_else (or_else o p) q
or_assoc None p q = refl
or_assoc (Some e) p q = refl

abbrev Passes : ℕ → List Action → List (List ℕ) → Type 0
Passes n front ls = first_fault n front ls ≡ or_else (first_broken front (read_numbers n ls) (read_actions ls)) (line_fault n ls)

passes_case : (n : ℕ) (front : List Action) (ls : List (List ℕ)) (what : Result (Option Action) LineFault) → ((after : List Action) → Passes (n + 1) after ls)
    → or_else (fault_given n front what) (first_fault (n + 1) (front ++ cons_option (action_or_none what) []) ls)
    ≡ or_else (first_broken front (number_first n what (read_numbers (n + 1) ls)) (action_first what (read_actions ls))) (fault_first n what (line_fault (n + 1) ls))
passes_case n front ls (Err f) rest = refl
passes_case n front ls (Ok None) rest = ap (λ after. first_fault (n + 1) after ls) (append-nil front) ∙ rest front
passes_case n front ls (Ok (Some a)) rest = ap (or_else (broken_rule n front a)) (rest (front ++ a ∷ [])) ∙ or_assoc (broken_rule n front a) (first_broken (front ++ a ∷ []) (read_numbers (n + 1) ls) (read_actions ls)) (line_fault (n + 1) ls)

-- the first fault is that of a rule, else that of a line
passes : (n : ℕ) (front : List Action) (ls : List (List ℕ)) → Passes n front ls
passes n front [] = refl
passes n front (l ∷ ls) = passes_case n front ls (given l) (λ after. passes (n + 1) after ls)

-- the first fault of a text's lines
abbrev two_passes : List (List ℕ) → Option CommitFault
two_passes ls = or_else (first_broken [] (read_numbers 1 ls) (read_actions ls)) (line_fault 1 ls)

first_is : (ls : List (List ℕ)) → head (faults ls) ≡ two_passes ls
first_is ls = faults_from [] ls ∙ passes 1 [] ls

some_fault : (e : CommitFault) → Some e ≡ None → ⊥
some_fault e h = cc

-- all lines are read
record AllRead (ls : List (List ℕ)) : Type 0 where
  read : list_all is_read ls ≡ true
  actions : read_actions ls ≡ actions_of ls

all_case : (n : ℕ) (ls : List (List ℕ)) (what : Result (Option Action) LineFault) → fault_first n what (line_fault (n + 1) ls) ≡ None → (line_fault (n + 1) ls ≡ None → AllRead ls)
    → ((is_ok what && list_all is_read ls) ≡ true) × (action_first what (read_actions ls) ≡ cons_option (action_or_none what) (actions_of ls))
all_case n ls (Err f) e rest = absurd (some_fault _ e)
all_case n ls (Ok o) e rest = let r = rest e in (r.read, ap (cons_option o) r.actions)

all_read : (n : ℕ) (ls : List (List ℕ)) → line_fault n ls ≡ None → AllRead ls
all_read n [] e = record { read = refl; actions = refl }
all_read n (l ∷ ls) e = let p = all_case n ls (given l) e (all_read (n + 1) ls) in record { read = p.0; actions = p.1 }

read_case : (n : ℕ) (ls : List (List ℕ)) (what : Result (Option Action) LineFault) → (is_ok what && list_all is_read ls) ≡ true → (list_all is_read ls ≡ true → (line_fault (n + 1) ls ≡ None) × (read_actions ls ≡ actions_of ls))
    → (fault_first n what (line_fault (n + 1) ls) ≡ None) × (action_first what (read_actions ls) ≡ cons_option (action_or_none what) (actions_of ls))
read_case n ls (Err f) e rest = absurd (true≢false (sym e))
read_case n ls (Ok o) e rest = let r = rest e in (r.0, ap (cons_option o) r.1)

none_read : (n : ℕ) (ls : List (List ℕ)) → list_all is_read ls ≡ true → (line_fault n ls ≡ None) × (read_actions ls ≡ actions_of ls)
none_read n [] e = (refl, refl)
none_read n (l ∷ ls) e = read_case n ls (given l) e (none_read (n + 1) ls)

same_case : (n : ℕ) (what : Result (Option Action) LineFault) (ns : List ℕ) (actions : List Action) → length ns ≡ length actions → length (number_first n what ns) ≡ length (action_first what actions)
same_case n (Err f) ns actions e = refl
same_case n (Ok None) ns actions e = e
same_case n (Ok (Some a)) ns actions e = ap suc e

-- each action has its line's number
same_length : (n : ℕ) (ls : List (List ℕ)) → length (read_numbers n ls) ≡ length (read_actions ls)
same_length n [] = refl
same_length n (l ∷ ls) = same_case n (given l) (read_numbers (n + 1) ls) (read_actions ls) (same_length (n + 1) ls)

faulty : (es : List CommitFault) (actions : List Action) (e : CommitFault) → head es ≡ Some e → unless_faulty es actions ≡ Err e
faulty [] actions e h = absurd (some_fault e (sym h))
faulty (f ∷ es) actions e h = let same : f ≡ e = cc in ap Err same

faultless : (es : List CommitFault) (actions : List Action) → head es ≡ None → unless_faulty es actions ≡ Ok actions
faultless [] actions h = refl
faultless (f ∷ es) actions h = absurd (some_fault f h)

within : (bytes : List ℕ) → length bytes ≤ 2 ^ 24 → commit_in bytes ≡ unless_faulty (faults (lines bytes)) (actions_of (lines bytes))
within bytes fits = ap (λ b. cond b (unless_faulty (faults (lines bytes)) (actions_of (lines bytes))) (Err fault.TooLarge)) (le-leb (length bytes) (2 ^ 24) fits)

-- the parts of what was read belong together
pub found_same : (ls : List (List ℕ)) (found : Found) (stop : Option CommitFault) → AreRead ls found stop → length found.numbers.items ≡ length found.actions.items
found_same ls found stop r = ap length r.numbers ∙ same_length 1 ls ∙ sym (ap length r.actions)

-- a rule is broken
pub breaks : (bytes : List ℕ) (found : Found) (stop : Option CommitFault) (e : CommitFault) → length bytes ≤ 2 ^ 24 → AreRead (lines bytes) found stop → Some e ≡ first_broken [] found.numbers.items found.actions.items → commit_in bytes ≡ Err e
breaks bytes found stop e fits r is =
    let ls = lines bytes in
    let here : first_broken [] (read_numbers 1 ls) (read_actions ls) ≡ Some e = ap (λ ns. first_broken [] ns (read_actions ls)) (sym r.numbers) ∙ ap (first_broken [] found.numbers.items) (sym r.actions) ∙ sym is in
    let first : head (faults ls) ≡ Some e = first_is ls ∙ ap (λ o. or_else o (line_fault 1 ls)) here in
    within bytes fits ∙ faulty (faults ls) (actions_of ls) e first

none_broken : (ls : List (List ℕ)) (found : Found) (stop : Option CommitFault) → AreRead ls found stop → None ≡ first_broken [] found.numbers.items found.actions.items → head (faults ls) ≡ stop
none_broken ls found stop r is =
    let here : first_broken [] (read_numbers 1 ls) (read_actions ls) ≡ None = ap (λ ns. first_broken [] ns (read_actions ls)) (sym r.numbers) ∙ ap (first_broken [] found.numbers.items) (sym r.actions) ∙ sym is in
    first_is ls ∙ ap (λ o. or_else o (line_fault 1 ls)) here ∙ sym r.fault

-- a line isn't read
pub stops : (bytes : List ℕ) (found : Found) (stop : Option CommitFault) (e : CommitFault) → length bytes ≤ 2 ^ 24 → AreRead (lines bytes) found stop → None ≡ first_broken [] found.numbers.items found.actions.items → stop ≡ Some e → commit_in bytes ≡ Err e
stops bytes found stop e fits r is at = within bytes fits ∙ faulty (faults (lines bytes)) (actions_of (lines bytes)) e (none_broken (lines bytes) found stop r is ∙ at)

-- nothing is wrong
pub stands : (bytes : List ℕ) (found : Found) (stop : Option CommitFault) → length bytes ≤ 2 ^ 24 → AreRead (lines bytes) found stop → None ≡ first_broken [] found.numbers.items found.actions.items → stop ≡ None → commit_in bytes ≡ Ok found.actions.items
stands bytes found stop fits r is at =
    let ls = lines bytes in
    let all = all_read 1 ls (sym r.fault ∙ at) in
    within bytes fits ∙ faultless (faults ls) (actions_of ls) (none_broken ls found stop r is ∙ at) ∙ ap Ok (sym (r.actions ∙ all.actions))

pub found_commit : (ls : List (List ℕ)) (found : Found) (stop : Option CommitFault) → AreRead ls found stop → None ≡ first_broken [] found.numbers.items found.actions.items → IsCommit found.actions.items
found_commit ls found stop r is = commit_unbroken found.numbers.items found.actions.items (sym is) (found_same ls found stop r)

too_large : (bytes : List ℕ) (b : Bool) → nat_le (length bytes) (2 ^ 24) ≡ b → 2 ^ 24 < length bytes → b ≡ false
too_large bytes true e lt = absurd (search (arith, tests))
too_large bytes false e lt = refl

pub too_large_is : (bytes : List ℕ) → 2 ^ 24 < length bytes → commit_in bytes ≡ Err fault.TooLarge
too_large_is bytes lt = ap (λ b. cond b (unless_faulty (faults (lines bytes)) (actions_of (lines bytes))) (Err fault.TooLarge)) (too_large bytes _ refl lt)

-- a commit's text stands for its actions
pub text_gives : (bytes : List ℕ) (actions : List Action) → IsCommitText bytes actions → commit_in bytes ≡ Ok actions
text_gives bytes actions t =
    let ls = lines bytes in
    let read = none_read 1 ls t.read in
    let rules : first_broken [] (read_numbers 1 ls) (read_actions ls) ≡ None = unbroken_commit (read_numbers 1 ls) (read_actions ls) (subst IsCommit (t.gives ∙ sym read.1) t.rules) in
    within bytes t.fits ∙ faultless (faults ls) (actions_of ls) (first_is ls ∙ rw (rules, read.0) refl) ∙ ap Ok (sym t.gives)

faultless_back : (es : List CommitFault) (xs actions : List Action) → unless_faulty es xs ≡ Ok actions → (head es ≡ None) × (actions ≡ xs)
faultless_back [] xs actions h = let same : xs ≡ actions = cc in (refl, sym same)
faultless_back (e ∷ es) xs actions h = absurd (cc)

both_none : (o p : Option CommitFault) → or_else o p ≡ None → (o ≡ None) × (p ≡ None)
both_none None p e = (refl, e)
both_none (Some f) p e = absurd (some_fault f e)

text_case : (bytes : List ℕ) (actions : List Action) (b : Bool) → nat_le (length bytes) (2 ^ 24) ≡ b → cond b (unless_faulty (faults (lines bytes)) (actions_of (lines bytes))) (Err fault.TooLarge) ≡ Ok actions → IsCommitText bytes actions
text_case bytes actions false e h = absurd (cc)
text_case bytes actions true e h =
    let ls = lines bytes in
    let back = faultless_back (faults ls) (actions_of ls) actions h in
    let none = both_none (first_broken [] (read_numbers 1 ls) (read_actions ls)) (line_fault 1 ls) (sym (first_is ls) ∙ back.0) in
    let all = all_read 1 ls none.1 in
    let fits : length bytes ≤ 2 ^ 24 = search (arith, tests) in
    record {
      fits = fits;
      read = all.read;
      gives = back.1;
      rules = subst IsCommit (all.actions ∙ sym back.1) (commit_unbroken (read_numbers 1 ls) (read_actions ls) none.0 (same_length 1 ls));
    }

-- what gives actions is a commit's text
pub text_of : (bytes : List ℕ) (actions : List Action) → commit_in bytes ≡ Ok actions → IsCommitText bytes actions
text_of bytes actions h = text_case bytes actions (nat_le (length bytes) (2 ^ 24)) refl h

pub answer_text : (bytes : List ℕ) (r : Result (List Action) NoCommit) → Answers r (commit_in bytes) → IfOk r (λ commit. IsCommitText bytes commit)
answer_text bytes (Ok actions) is = text_of bytes actions is
answer_text bytes (Err e) is = tt
