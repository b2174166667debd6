-- The head of a response at the front of a text, and the head that the whole text is.
use Rattle.std.proofs.Common.{◌≡◌, ℕ, ◌<◌, ◌≤◌, Bool, true, false, List, [], ◌++◌, length, drop, sym, ap, ◌∙◌, arith}
use Rattle.std.specs.Bool.{MatchBool, then_some}
use Rattle.std.proofs.lemmas.List.{append-nil, length-map, drop_all}
use Rattle.httparse.specs.Grammar.{ResponseHead as Tree, ReadsResponse, print_response}
use Rattle.httparse.specs.Spans.{name_and_value}
use Rattle.httparse.proofs.GrammarLemmas.{response_unique}
use Rattle.http_message.specs.declared.response.ResponseHead.{ResponseHead}
use Rattle.http_message.specs.HeadReadings.{TellsHeadText}
use Rattle.http_message.specs.Responses.{response_of_tree, IsResponseOf, IsResponseText, IsResponseFront}

pub reads_response : (text : List ℕ) (tree : Tree) → IsResponseOf text tree → ReadsResponse text tree []
reads_response text tree whole = (whole.valid, whole.spelled ∙ sym (append-nil (print_response tree)))

pub lacks_response : (text : List ℕ) → ((tree : Tree) (rest : List ℕ) → ReadsResponse text tree rest → 64 < length tree.fields) → (head : ResponseHead) → ¬ (IsResponseText text head)
lacks_response text lacks head is =
    let many = lacks is.0 [] (reads_response text is.0 is.1) in
    omega (arith, many, is.1.few)

pub whole_response : (text : List ℕ) (head : ResponseHead) (len : ℕ) (tree : Tree) → IsResponseFront text head len tree → len ≡ length text → length head.fields ≤ 64 → IsResponseText text head
whole_response text head len tree front all few =
    let none : drop len text ≡ [] = drop_all len text (omega arith) in
    let spelled : text ≡ print_response tree = front.reads.1 ∙ ap (λ x. print_response tree ++ x) none ∙ append-nil (print_response tree) in
    let counted : length tree.fields ≤ 64 = omega (arith, ap length front.fields, length-map tree.fields name_and_value, few) in
    let same : head ≡ response_of_tree tree = λ i. record { minor = front.minor i; status = front.status i; fields = front.fields i } in
    (tree, record { valid = front.reads.0; spelled = spelled; few = counted }, same)

pub front_is_response : (text : List ℕ) (head : ResponseHead) (len : ℕ) (tree : Tree) (other : ResponseHead) → IsResponseFront text head len tree → IsResponseText text other → (len ≡ length text) × (length head.fields ≤ 64)
front_is_response text head len tree other front is =
    let same = (response_unique text tree is.0 _ _ front.reads (reads_response text is.0 is.1)).0 in
    let few : length tree.fields ≤ 64 = rw same is.1.few in (
      front.len_is ∙ ap (λ x. length (print_response x)) same ∙ sym (ap length is.1.spelled),
      omega (arith, ap length front.fields, length-map tree.fields name_and_value, few),
    )

-- what is told of a text by whether the head at its front is the whole
pub told_response : (text : List ℕ) (head : ResponseHead) (len : ℕ) (tree : Tree) → IsResponseFront text head len tree → (whole : Bool)
    → MatchBool whole ((len ≡ length text) × (length head.fields ≤ 64)) ((len ≡ length text) → 64 < length head.fields)
    → TellsHeadText IsResponseText text (then_some whole head)
told_response text head len tree front true few = whole_response text head len tree front few.0 few.1
told_response text head len tree front false many = λ other is.
    let whole = front_is_response text head len tree other front is in
    let more = many whole.0 in
    omega (arith, more, whole.1)
