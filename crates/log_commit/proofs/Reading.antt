-- Reading a text line by line.
use Rattle.std.proofs.Common.{◌≡◌, ℕ, ◌+◌, List, [], ◌∷◌, ◌++◌, Option, Some, None, Result, Ok, Err, is_some, refl, sym, ap, ◌∙◌, true, false, true≢false, append_assoc}
use Rattle.std.proofs.lemmas.List.{append-nil}
use Rattle.log_actions.specs.declared.actions.Action.{Action}
use Rattle.log_actions.specs.declared.line_fault.LineFault.{LineFault}
use Rattle.log_commit.specs.Lines.{given}
use Rattle.log_commit.specs.Passes.{action_first, fault_first, line_fault, number_first, read_actions, read_numbers}
use Rattle.log_commit.specs.declared.faults.CommitFault.{CommitFault}

go_case : (n : ℕ) (what : Result (Option Action) LineFault) (rest stop : Option CommitFault) → stop ≡ fault_first n what None → is_some stop ≡ false → fault_first n what rest ≡ rest
go_case n (Ok o) rest stop e none = refl
go_case n (Err f) rest stop e none = absurd (true≢false (sym (ap is_some e) ∙ none))

stop_case : (n : ℕ) (what : Result (Option Action) LineFault) (rest stop : Option CommitFault) → stop ≡ fault_first n what None → is_some stop ≡ true → stop ≡ fault_first n what rest
stop_case n (Ok o) rest stop e some = absurd (true≢false (sym some ∙ ap is_some e))
stop_case n (Err f) rest stop e some = e

numbers_case : (n : ℕ) (what : Result (Option Action) LineFault) (front rest : List ℕ) (stop : Option CommitFault) → stop ≡ fault_first n what None → is_some stop ≡ false
    → front ++ number_first n what rest ≡ (front ++ number_first n what []) ++ rest
numbers_case n (Ok None) front rest stop e none = ap (λ f. f ++ rest) (sym (append-nil front))
numbers_case n (Ok (Some a)) front rest stop e none = sym (append_assoc front (n ∷ []) rest)
numbers_case n (Err f) front rest stop e none = absurd (true≢false (sym (ap is_some e) ∙ none))

numbers_end : (n : ℕ) (what : Result (Option Action) LineFault) (rest : List ℕ) (stop : Option CommitFault) → stop ≡ fault_first n what None → is_some stop ≡ true
    → number_first n what rest ≡ number_first n what []
numbers_end n (Ok o) rest stop e some = absurd (true≢false (sym some ∙ ap is_some e))
numbers_end n (Err f) rest stop e some = refl

actions_case : (n : ℕ) (what : Result (Option Action) LineFault) (front rest : List Action) (stop : Option CommitFault) → stop ≡ fault_first n what None → is_some stop ≡ false
    → front ++ action_first what rest ≡ (front ++ action_first what []) ++ rest
actions_case n (Ok None) front rest stop e none = ap (λ f. f ++ rest) (sym (append-nil front))
actions_case n (Ok (Some a)) front rest stop e none = sym (append_assoc front (a ∷ []) rest)
actions_case n (Err f) front rest stop e none = absurd (true≢false (sym (ap is_some e) ∙ none))

actions_end : (n : ℕ) (what : Result (Option Action) LineFault) (rest : List Action) (stop : Option CommitFault) → stop ≡ fault_first n what None → is_some stop ≡ true
    → action_first what rest ≡ action_first what []
actions_end n (Ok o) rest stop e some = absurd (true≢false (sym some ∙ ap is_some e))
actions_end n (Err f) rest stop e some = refl

-- one line more was read
pub fault_more : (n : ℕ) (line : List ℕ) (ls more : List (List ℕ)) (stop : Option CommitFault) → ls ≡ line ∷ more → stop ≡ fault_first n (given line) None → is_some stop ≡ false → line_fault n ls ≡ line_fault (n + 1) more
fault_more n line ls more stop is e none = ap (line_fault n) is ∙ go_case n (given line) (line_fault (n + 1) more) stop e none

pub numbers_more : (n : ℕ) (line : List ℕ) (ls more : List (List ℕ)) (old new : List ℕ) (stop : Option CommitFault) → ls ≡ line ∷ more → new ≡ old ++ number_first n (given line) [] → stop ≡ fault_first n (given line) None → is_some stop ≡ false
    → old ++ read_numbers n ls ≡ new ++ read_numbers (n + 1) more
numbers_more n line ls more old new stop is adds e none =
    ap (λ l. old ++ read_numbers n l) is ∙ numbers_case n (given line) old (read_numbers (n + 1) more) stop e none ∙ ap (λ f. f ++ read_numbers (n + 1) more) (sym adds)

pub actions_more : (n : ℕ) (line : List ℕ) (ls more : List (List ℕ)) (old new : List Action) (stop : Option CommitFault) → ls ≡ line ∷ more → new ≡ old ++ action_first (given line) [] → stop ≡ fault_first n (given line) None → is_some stop ≡ false
    → old ++ read_actions ls ≡ new ++ read_actions more
actions_more n line ls more old new stop is adds e none =
    ap (λ l. old ++ read_actions l) is ∙ actions_case n (given line) old (read_actions more) stop e none ∙ ap (λ f. f ++ read_actions more) (sym adds)

-- a line isn't read
pub fault_stops : (n : ℕ) (line : List ℕ) (ls more : List (List ℕ)) (stop : Option CommitFault) → ls ≡ line ∷ more → stop ≡ fault_first n (given line) None → is_some stop ≡ true → stop ≡ line_fault n ls
fault_stops n line ls more stop is e some = stop_case n (given line) (line_fault (n + 1) more) stop e some ∙ ap (line_fault n) (sym is)

pub numbers_stop : (n : ℕ) (line : List ℕ) (ls more : List (List ℕ)) (old new : List ℕ) (stop : Option CommitFault) → ls ≡ line ∷ more → new ≡ old ++ number_first n (given line) [] → stop ≡ fault_first n (given line) None → is_some stop ≡ true
    → new ≡ old ++ read_numbers n ls
numbers_stop n line ls more old new stop is adds e some = adds ∙ ap (λ f. old ++ f) (sym (numbers_end n (given line) (read_numbers (n + 1) more) stop e some)) ∙ ap (λ l. old ++ read_numbers n l) (sym is)

pub actions_stop : (n : ℕ) (line : List ℕ) (ls more : List (List ℕ)) (old new : List Action) (stop : Option CommitFault) → ls ≡ line ∷ more → new ≡ old ++ action_first (given line) [] → stop ≡ fault_first n (given line) None → is_some stop ≡ true
    → new ≡ old ++ read_actions ls
actions_stop n line ls more old new stop is adds e some = adds ∙ ap (λ f. old ++ f) (sym (actions_end n (given line) (read_actions more) stop e some)) ∙ ap (λ l. old ++ read_actions l) (sym is)
