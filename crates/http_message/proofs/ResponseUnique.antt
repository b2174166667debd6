-- A stream is one response.
use Rattle.std.proofs.Common.{◌≡◌, ℕ, ◌-◌, ◌≤◌, Bool, true, List, [], ◌∷◌, ◌++◌, length, Option, Some, None, Result, Ok, Err, refl, sym, ap, ◌∙◌, subst, arith, append_assoc}
use Rattle.std.proofs.lemmas.List.{length-append}
use Rattle.std.proofs.lemmas.List.Elements.{All-head, All-tail}
use Rattle.httparse.proofs.GrammarLemmas.{response_unique}
use Rattle.http_message.specs.Bodies.{BodyReading}
use Rattle.http_message.specs.HeadReadings.{HeadReading, headed, nothing, cut, faulty, ReadsHead}
use Rattle.http_message.specs.Responses.{response_of_tree, IsResponseText, response_form}
use Rattle.http_message.specs.ResponseMessages.{HeadText, IsInterim, is_interim, heads_text, PassesOver, IsFinal, without_switch, ReadsFinalHead, ReadsResponseBody, ResponseReading, with_response, ReadsBehindResponse, ReadsResponseWithin}
use Rattle.http_message.specs.declared.framing.Form.{Form}
use Rattle.http_message.specs.declared.refusal.Flaw.{Flaw}
use Rattle.http_message.specs.declared.response.ResponseHead.{ResponseHead}
use Rattle.http_message.proofs.HeadUnique.{clash, head_unique}
use Rattle.http_message.proofs.ResponseFacts.{reads_response}
use Rattle.http_message.proofs.Unique.{body_unique}
use Rattle.http_message.proofs.WholeHeads.{whole_reads, same_head}

response_text_unique : (text : List ℕ) (h k : ResponseHead) → IsResponseText text h → IsResponseText text k → h ≡ k
response_text_unique text h k p q =
    let same = (response_unique text p.0 q.0 [] [] (reads_response text p.0 p.1) (reads_response text q.0 q.1)).0 in
    p.2 ∙ ap response_of_tree same ∙ sym q.2

-- ---- interim heads

-- the first of the heads that are passed over, and the others
pub record FirstHead (most : ℕ) (stream : List ℕ) (i : HeadText) (heads : List HeadText) (rest tail : List ℕ) : Type 0 where
  pub reads : ReadsHead IsResponseText most stream (headed i.head tail)
  pub interim : is_interim i.head ≡ true
  pub spelled : stream ≡ i.text ++ tail
  pub others : PassesOver (most - length i.text) tail heads rest
  pub room : most - length (heads_text (i ∷ heads)) ≡ most - length i.text - length (heads_text heads)

first_head : (most : ℕ) (stream : List ℕ) (i : HeadText) (heads : List HeadText) (rest : List ℕ) → PassesOver most stream (i ∷ heads) rest
    → FirstHead most stream i heads rest (heads_text heads ++ rest)
first_head most stream i heads rest p =
    let tail = heads_text heads ++ rest in
    let first = All-head IsInterim i heads p.each in
    let spelled : stream ≡ i.text ++ tail = p.spelled ∙ append_assoc i.text (heads_text heads) rest in
    let sized = length-append i.text (heads_text heads) in
    let fits : length i.text ≤ most = omega (arith, p.within, sized) in
    record {
      reads = subst (λ s. ReadsHead IsResponseText most s (headed i.head tail)) (sym spelled) (whole_reads IsResponseText most i.text tail i.head first.whole fits);
      interim = first.interim;
      spelled = spelled;
      others = record { each = All-tail IsInterim i heads p.each; spelled = refl; within = omega (arith, p.within, sized) };
      room = omega (arith, sized);
    }

-- no final head stands where an interim one does
not_final : (most : ℕ) (stream : List ℕ) (x : HeadReading ResponseHead) (i : HeadText) (tail : List ℕ) → ReadsHead IsResponseText most stream x → IsFinal x
    → ReadsHead IsResponseText most stream (headed i.head tail) → is_interim i.head ≡ true → ⊥
not_final most stream x i tail reads final other interim =
    let same = head_unique IsResponseText response_text_unique most stream x (headed i.head tail) reads other in
    clash (is_interim i.head) interim (subst IsFinal same final)

nothing_passed : (most : ℕ) (stream rest : List ℕ) (x : HeadReading ResponseHead) → PassesOver most stream [] rest → ReadsHead IsResponseText (most - 0) rest x → ReadsHead IsResponseText most stream x
nothing_passed most stream rest x p reads =
    let whole : most - 0 ≡ most = omega arith in
    subst (λ s. ReadsHead IsResponseText most s x) (sym p.spelled) (subst (λ n. ReadsHead IsResponseText n rest x) whole reads)

pub final_unique : (ps qs : List HeadText) (most : ℕ) (stream r s : List ℕ) (x y : HeadReading ResponseHead)
    → PassesOver most stream ps r → ReadsHead IsResponseText (most - length (heads_text ps)) r x → IsFinal x
    → PassesOver most stream qs s → ReadsHead IsResponseText (most - length (heads_text qs)) s y → IsFinal y → x ≡ y
final_unique [] [] most stream r s x y p px fx q qy fy =
    head_unique IsResponseText response_text_unique most stream x y (nothing_passed most stream r x p px) (nothing_passed most stream s y q qy)
final_unique [] (j ∷ qs) most stream r s x y p px fx q qy fy =
    let f = first_head most stream j qs s q in
    absurd (not_final most stream x j (heads_text qs ++ s) (nothing_passed most stream r x p px) fx f.reads f.interim)
final_unique (i ∷ ps) [] most stream r s x y p px fx q qy fy =
    let f = first_head most stream i ps r p in
    absurd (not_final most stream y i (heads_text ps ++ r) (nothing_passed most stream s y q qy) fy f.reads f.interim)
final_unique (i ∷ ps) (j ∷ qs) most stream r s x y p px fx q qy fy =
    let a = first_head most stream i ps r p in
    let b = first_head most stream j qs s q in
    let ta = heads_text ps ++ r in
    let tb = heads_text qs ++ s in
    let tails : ta ≡ tb = (same_head i.head j.head ta tb (head_unique IsResponseText response_text_unique most stream (headed i.head ta) (headed j.head tb) a.reads b.reads)).1 in
    let sized : length i.text ≡ length j.text =
    omega (arith, ap length (sym a.spelled ∙ b.spelled), length-append i.text ta, length-append j.text tb, ap length tails) in
    let moved : PassesOver (most - length i.text) ta qs s =
    subst (λ n. PassesOver (most - n) ta qs s) (sym sized) (subst (λ t. PassesOver (most - length j.text) t qs s) (sym tails) b.others) in
    let here : ReadsHead IsResponseText (most - length i.text - length (heads_text ps)) r x = subst (λ n. ReadsHead IsResponseText n r x) a.room px in
    let there : ReadsHead IsResponseText (most - length i.text - length (heads_text qs)) s y =
    subst (λ n. ReadsHead IsResponseText (most - n - length (heads_text qs)) s y) (sym sized) (subst (λ n. ReadsHead IsResponseText n s y) b.room qy) in
    final_unique ps qs (most - length i.text) ta r s x y a.others here fx moved there fy

final_head_unique : (most : ℕ) (stream : List ℕ) (x y : HeadReading ResponseHead) → ReadsFinalHead most stream x → ReadsFinalHead most stream y → x ≡ y
final_head_unique most stream x y p q = p.6 ∙ ap without_switch (final_unique p.0 q.0 most stream p.1 q.1 p.2 q.2 p.3 p.4 p.5 q.3 q.4 q.5) ∙ sym q.6

-- ---- bodies

response_body_unique : (most : ℕ) (f : Result (Option Form) Flaw) (stream : List ℕ) (x y : BodyReading) → ReadsResponseBody most f stream x → ReadsResponseBody most f stream y → x ≡ y
response_body_unique most (Err flaw) stream x y p q = p ∙ sym q
response_body_unique most (Ok None) stream x y p q = p ∙ sym q
response_body_unique most (Ok (Some form)) stream x y p q = body_unique most (Ok form) stream x y p q

behind_response_unique : (most : ℕ) (to_head : Bool) (head : HeadReading ResponseHead) (x y : ResponseReading) → ReadsBehindResponse most to_head head x → ReadsBehindResponse most to_head head y → x ≡ y
behind_response_unique most to_head (headed head rest) x y p q = p.2 ∙ ap (with_response head) (response_body_unique most (response_form most to_head head) rest p.0 q.0 p.1 q.1) ∙ sym q.2
behind_response_unique most to_head nothing x y p q = p ∙ sym q
behind_response_unique most to_head cut x y p q = p ∙ sym q
behind_response_unique most to_head (faulty flaw) x y p q = p ∙ sym q

pub response_reading_unique : (most : ℕ) (to_head : Bool) (stream : List ℕ) (x y : ResponseReading) → ReadsResponseWithin most to_head stream x → ReadsResponseWithin most to_head stream y → x ≡ y
response_reading_unique most to_head stream x y p q =
    let same = final_head_unique 16384 stream p.0 q.0 p.1 q.1 in
    behind_response_unique most to_head q.0 x y (subst (λ h. ReadsBehindResponse most to_head h x) same p.2) q.2
