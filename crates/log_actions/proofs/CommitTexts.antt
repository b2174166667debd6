-- The printed text of a commit, line after line.
use Rattle.std.proofs.Common.{◌≡◌, ℕ, ◌+◌, ◌-◌, ◌<◌, List, [], ◌∷◌, ◌++◌, length, take, get_or, min, arith, length-append, refl, sym, ap, ◌∙◌, append_assoc}
use Rattle.std.specs.Prelude.{◌^◌}
use Rattle.std.proofs.lemmas.List.{append-nil, take_more}
use Rattle.json_print.specs.Lengths.{capped}
use Rattle.log_actions.specs.CommitTexts.{commit_text}
use Rattle.log_actions.specs.Printing.{line_text}
use Rattle.log_actions.specs.declared.actions.Action.{Action}

text_push : (actions : List Action) (a : Action) → commit_text (actions ++ a ∷ []) ≡ commit_text actions ++ (line_text a ++ 10 ∷ [])
text_push [] a = append-nil (line_text a ++ 10 ∷ [])
text_push (x ∷ actions) a = ap (λ t. line_text x ++ 10 ∷ [] ++ t) (text_push actions a) ∙ sym (append_assoc (line_text x ++ 10 ∷ []) (commit_text actions) (line_text a ++ 10 ∷ []))

-- one line more was printed
pub text_more : (actions : List Action) (i : ℕ) (a : Action) (old new : List ℕ) → i < length actions → a ≡ get_or actions i a → old ≡ commit_text (take i actions) → new ≡ old ++ (line_text a ++ 10 ∷ []) → new ≡ commit_text (take (i + 1) actions)
text_more actions i a old new lt is so adds =
    adds ∙ ap (λ t. t ++ (line_text a ++ 10 ∷ [])) so ∙ sym (text_push (take i actions) a) ∙ ap commit_text (ap (λ x. take i actions ++ x ∷ []) is ∙ sym (take_more actions i a lt))

capped_sum : (m n k : ℕ) → k ≡ m + (n + 1) → min (min (min m (2 ^ 64 - 1) + min n (2 ^ 64 - 1)) (2 ^ 64 - 1) + 1) (2 ^ 64 - 1) ≡ min k (2 ^ 64 - 1)
capped_sum m n k e = omega arith

pub length_more : (actions : List Action) (i : ℕ) (a : Action) (old new : ℕ) → i < length actions → a ≡ get_or actions i a → old ≡ capped (length (commit_text (take i actions)))
    → new ≡ min (min (old + capped (length (line_text a))) (2 ^ 64 - 1) + 1) (2 ^ 64 - 1) → new ≡ capped (length (commit_text (take (i + 1) actions)))
length_more actions i a old new lt is so adds =
    let next : commit_text (take (i + 1) actions) ≡ commit_text (take i actions) ++ (line_text a ++ 10 ∷ []) = sym (text_more actions i a (commit_text (take i actions)) _ lt is refl refl) in
    let long : length (commit_text (take (i + 1) actions)) ≡ length (commit_text (take i actions)) + (length (line_text a) + 1) = ap length next ∙ simp length-append (omega arith) in
    adds ∙ ap (λ m. min (min (m + capped (length (line_text a))) (2 ^ 64 - 1) + 1) (2 ^ 64 - 1)) so ∙ capped_sum (length (commit_text (take i actions))) (length (line_text a)) _ long
