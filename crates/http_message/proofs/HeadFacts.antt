-- A head at the front of a text, and the head that the whole text is.
use Rattle.std.proofs.Common.{◌≡◌, ◌≢◌, ℕ, ◌<◌, ◌≤◌, Bool, true, false, inl, inr, leb, eqb, List, [], ◌++◌, length, drop, sym, ap, subst, ◌∙◌, arith}
use Rattle.std.specs.Bool.{MatchBool, then_some}
use Rattle.std.proofs.lemmas.Bool.{cases_lt, le-leb, lt-leb, ne_eqb}
use Rattle.std.proofs.lemmas.List.{append-nil, length-map, drop_all}
use Rattle.httparse.specs.Grammar.{RequestHead, ReadsRequest, print_request, Field, LineEnd, ReadsSection, print_section, HasNoSection}
use Rattle.httparse.specs.Borrowed.{header_parts, HoldsSection}
use Rattle.httparse.specs.declared.borrowed.Header.{Header}
use Rattle.httparse.specs.Spans.{name_and_value, RequestOverflows, SectionOverflows}
use Rattle.httparse.proofs.GrammarLemmas.{request_unique, section_unique}
use Rattle.http_message.specs.declared.head.Head.{Head}
use Rattle.http_message.specs.Heads.{head_of_tree, IsTextOf, IsHeadText, IsTrailersOf, IsTrailersText}
use Rattle.http_message.specs.Fronts.{IsFront}
use Rattle.http_message.specs.HeadReadings.{TellsHeadText}

pub reads_whole : (text : List ℕ) (tree : RequestHead) → IsTextOf text tree → ReadsRequest text tree []
reads_whole text tree whole = (whole.valid, whole.spelled ∙ sym (append-nil (print_request tree)))

pub none_from_overflow : (text : List ℕ) → RequestOverflows 64 text → (tree : RequestHead) (rest : List ℕ) → ReadsRequest text tree rest → 64 < length tree.fields
none_from_overflow text over tree rest reads = over [] tree rest (rw append-nil reads)

pub lacks_whole : (text : List ℕ) → ((tree : RequestHead) (rest : List ℕ) → ReadsRequest text tree rest → 64 < length tree.fields) → (head : Head) → ¬ (IsHeadText text head)
lacks_whole text lacks head is =
    let many = lacks is.0 [] (reads_whole text is.0 is.1) in
    omega (arith, many, is.1.few)

-- the front is the whole
pub whole_front : (text : List ℕ) (head : Head) (len : ℕ) (tree : RequestHead) → IsFront text head len tree → len ≡ length text → length head.fields ≤ 64 → IsHeadText text head
whole_front text head len tree front all few =
    let none : drop len text ≡ [] = drop_all len text (omega arith) in
    let spelled : text ≡ print_request tree = front.reads.1 ∙ ap (λ x. print_request tree ++ x) none ∙ append-nil (print_request tree) in
    let counted : length tree.fields ≤ 64 = omega (arith, ap length front.fields, length-map tree.fields name_and_value, few) in
    let same : head ≡ head_of_tree tree = λ i. record { method = front.method i; target = front.target i; minor = front.minor i; fields = front.fields i } in
    (tree, record { valid = front.reads.0; spelled = spelled; few = counted }, same)

-- a text that is a head has it at its front, and nothing more
pub front_is_whole : (text : List ℕ) (head : Head) (len : ℕ) (tree : RequestHead) (other : Head) → IsFront text head len tree → IsHeadText text other → (len ≡ length text) × (length head.fields ≤ 64)
front_is_whole text head len tree other front is =
    let same = (request_unique text tree is.0 _ _ front.reads (reads_whole text is.0 is.1)).0 in
    let few : length tree.fields ≤ 64 = rw same is.1.few in (
      front.len_is ∙ ap (λ x. length (print_request x)) same ∙ sym (ap length is.1.spelled),
      omega (arith, ap length front.fields, length-map tree.fields name_and_value, few),
    )

-- what is told of a text by whether the head at its front is the whole
pub told_head : (text : List ℕ) (head : Head) (len : ℕ) (tree : RequestHead) → IsFront text head len tree → (whole : Bool)
    → MatchBool whole ((len ≡ length text) × (length head.fields ≤ 64)) ((len ≡ length text) → 64 < length head.fields)
    → TellsHeadText IsHeadText text (then_some whole head)
told_head text head len tree front true few = whole_front text head len tree front few.0 few.1
told_head text head len tree front false many = λ other is.
    let whole = front_is_whole text head len tree other front is in
    let more = many whole.0 in
    omega (arith, more, whole.1)

-- ---- trailers

pub reads_section : (text : List ℕ) (fields : List Field) (last : LineEnd) → IsTrailersOf text fields last → ReadsSection text fields last []
reads_section text fields last whole = (whole.valid, whole.spelled ∙ sym (append-nil (print_section fields last)))

pub lacks_section : (text : List ℕ) → SectionOverflows 64 text → ¬ (IsTrailersText text)
lacks_section text over is =
    let many = over [] is.0 is.1 [] (rw append-nil (reads_section text is.0 is.1 is.2)) in
    omega (arith, many, is.2.few)

pub whole_section : (text : List ℕ) (len : ℕ) (headers : List Header) (fields : List Field) (last : LineEnd) → HoldsSection text len headers fields last
    → len ≡ length text → length headers ≤ 64 → IsTrailersText text
whole_section text len headers fields last held all few =
    let none : drop len text ≡ [] = drop_all len text (omega arith) in
    let spelled : text ≡ print_section fields last = held.reads.1 ∙ ap (λ x. print_section fields last ++ x) none ∙ append-nil (print_section fields last) in
    let counted : length fields ≤ 64 = omega (arith, ap length held.fields_are, length-map fields name_and_value, length-map headers header_parts, few) in
    (fields, last, record { valid = held.reads.0; spelled = spelled; few = counted })

pub section_is_whole : (text : List ℕ) (len : ℕ) (headers : List Header) (fields : List Field) (last : LineEnd) → HoldsSection text len headers fields last
    → IsTrailersText text → (len ≡ length text) × (length headers ≤ 64)
section_is_whole text len headers fields last held is =
    let same = section_unique text fields is.0 last is.1 _ _ held.reads (reads_section text is.0 is.1 is.2) in
    let few : length fields ≤ 64 = rw same.0 is.2.few in (
      held.len_is ∙ ap (λ x. length (print_section x last)) same.0 ∙ ap (λ x. length (print_section is.0 x)) same.1 ∙ sym (ap length is.2.spelled),
      omega (arith, ap length held.fields_are, length-map fields name_and_value, length-map headers header_parts, few),
    )

pub no_section : (text : List ℕ) → HasNoSection text → ¬ (IsTrailersText text)
no_section text none is = none is.0 is.1 [] (reads_section text is.0 is.1 is.2)

pub some_section : (len : ℕ) (text : List ℕ) (headers : List Header) (fields : List Field) (last : LineEnd) → HoldsSection text len headers fields last
    → len ≡ length text → MatchBool (leb (length headers) 64) (IsTrailersText text) (¬ (IsTrailersText text))
some_section len text headers fields last held all =
    elim (cases_lt 64 (length headers)) [
      | inl many ↦ subst (λ b. MatchBool b (IsTrailersText text) (¬ (IsTrailersText text))) (sym (lt-leb (length headers) 64 many)) (λ is. omega (arith, many, (section_is_whole text len headers fields last held is).1))
      | inr few ↦ subst (λ b. MatchBool b (IsTrailersText text) (¬ (IsTrailersText text))) (sym (le-leb (length headers) 64 few)) (whole_section text len headers fields last held all few)
    ]

pub short_section : (len : ℕ) (text : List ℕ) (headers : List Header) (fields : List Field) (last : LineEnd) → HoldsSection text len headers fields last
    → len ≢ length text → MatchBool (eqb len (length text)) (IsTrailersText text) (¬ (IsTrailersText text))
short_section len text headers fields last held short =
    subst (λ b. MatchBool b (IsTrailersText text) (¬ (IsTrailersText text))) (sym (ne_eqb len (length text) short)) (λ is. short (section_is_whole text len headers fields last held is).0)
