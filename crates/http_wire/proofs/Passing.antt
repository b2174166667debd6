-- Interim heads, one after another, and what stands behind them.
use Rattle.std.proofs.Common.{◌≡◌, ℕ, ◌+◌, ◌-◌, ◌<◌, ◌≤◌, inl, inr, true, false, cond, List, [], ◌∷◌, ◌++◌, length, Option, Result, Ok, Err, refl, sym, ap, ◌∙◌, subst, arith, append_assoc, length-append}
use Rattle.std.specs.Prelude.{⊤}
use Rattle.std.proofs.lemmas.Bool.{eq-eqb, ne_eqb}
use Rattle.std.proofs.lemmas.List.Elements.{All-cons, All-nil}
use Rattle.http_message.specs.HeadReadings.{HeadReading, headed, nothing, cut, faulty, ReadsHead}
use Rattle.http_message.specs.Responses.{IsResponseText}
use Rattle.http_message.specs.ResponseMessages.{HeadText, IsInterim, is_interim, heads_text, IsFinal, without_switch, ReadsFinalHead}
use Rattle.http_message.specs.declared.refusal.Flaw.TheVariants.{BadMessage}
use Rattle.http_message.specs.declared.response.ResponseHead.{ResponseHead}
use Rattle.http_message.proofs.WholeHeads.{headed_whole}
use Rattle.http_wire.specs.Heads.{HeadFound, IsHeadShort, IsCounted, IsPassing}
use Rattle.http_wire.specs.Streams.{Buffer, Draws, Drew}
use Rattle.http_wire.specs.declared.head.HeadRead.{HeadRead}
use Rattle.http_wire.specs.declared.head.HeadRead.TheVariants as read
use Rattle.http_wire.specs.declared.inbox.Halt.{Halt}
use Rattle.http_wire.proofs.Streams.{draws_none, draws_then}

abbrev pub HeadStep : {S : Type 0} → (S → Option (List ℕ)) → ℕ → (a b : Buffer) → (s t : S) → Result (HeadRead ResponseHead) Halt → Type 0
HeadStep left room a b s t r =
    Drew left (IsHeadShort (ReadsHead IsResponseText room)) a b s t (λ used. HeadFound (ReadsHead IsResponseText room) used b.0 (left t) r × IsCounted room used r)

abbrev pub Passed : {S : Type 0} → (S → Option (List ℕ)) → ℕ → (a b : Buffer) → (s t : S) → Type 0
Passed left room a b s t = Drew left (IsHeadShort (ReadsFinalHead 16384)) a b s t (IsPassing ReadsFinalHead 16384 room)

abbrev pub FinalStep : {S : Type 0} → (S → Option (List ℕ)) → (a b : Buffer) → (s t : S) → Result (HeadRead ResponseHead) Halt → Type 0
FinalStep left a b s t r = Drew left (IsHeadShort (ReadsFinalHead 16384)) a b s t (λ used. HeadFound (ReadsFinalHead 16384) used b.0 (left t) r)

pub passed_none : {S : Type 0} (left : S → Option (List ℕ)) (a : Buffer) (s : S) → Passed left 16384 a a s s
passed_none left a s = ([], [], draws_none left (IsHeadShort (ReadsFinalHead 16384)) a a s s refl refl, record { counted = omega arith; goes = λ ys reading reads. reads })

-- a head that isn't interim, or none
final_reads : (room : ℕ) (mid : List ℕ) (found : HeadReading ResponseHead) → ReadsHead IsResponseText room mid found → IsFinal found → ReadsFinalHead room mid (without_switch found)
final_reads room mid found reads final =
    let all : room ≡ room - length (heads_text []) = omega arith in
    ([], mid, found, record { each = All-nil IsInterim; spelled = refl; within = omega arith }, subst (λ n. ReadsHead IsResponseText n mid found) all reads, final, refl)

short_final : (room : ℕ) (used y : List ℕ) → IsPassing ReadsFinalHead 16384 room used → IsHeadShort (ReadsHead IsResponseText room) y → IsHeadShort (ReadsFinalHead 16384) (used ++ y)
short_final room used y is (inl none) = inl (is.goes y nothing (final_reads room y nothing none tt))
short_final room used y is (inr open_head) = inr (is.goes y cut (final_reads room y cut open_head tt))

-- one interim head
interim_goes : (room : ℕ) (w ys : List ℕ) (head : ResponseHead) → ReadsHead IsResponseText room (w ++ ys) (headed head ys) → is_interim head ≡ true
    → (reading : HeadReading ResponseHead) → ReadsFinalHead (room - length w) ys reading → ReadsFinalHead room (w ++ ys) reading
interim_goes room w ys head found interim reading reads =
    let t = headed_whole IsResponseText room (w ++ ys) head ys found in
    let i : HeadText = record { text = t.0; head = head } in
    let heads = reads.0 in
    let passes = reads.3 in
    let sized : length (heads_text (i ∷ heads)) ≡ length t.0 + length (heads_text heads) = length-append t.0 (heads_text heads) in
    let same : length t.0 ≡ length w = omega (arith, ap length t.2, length-append t.0 ys, length-append w ys) in
    let left_over : room - length w - length (heads_text heads) ≡ room - length (heads_text (i ∷ heads)) = omega (arith, sized, same) in (
      i ∷ heads,
      reads.1,
      reads.2,
      record {
        each = All-cons IsInterim i heads (record { whole = t.1; interim = interim }) passes.each;
        spelled = t.2 ∙ ap (λ x. t.0 ++ x) passes.spelled ∙ sym (append_assoc t.0 (heads_text heads) reads.1);
        within = omega (arith, sized, same, passes.within, t.3);
      },
      subst (λ n. ReadsHead IsResponseText n reads.1 reads.2) left_over reads.4,
      reads.5,
      reads.6,
    )

pub passed_more : {S : Type 0} (left : S → Option (List ℕ)) (room room_new : ℕ) (a b c : Buffer) (s t v : S) (head : ResponseHead) (len : ℕ) → Passed left room a b s t → HeadStep left room b c t v (Ok (read.Whole head len))
    → is_interim head ≡ true → room_new ≡ room - len → (Passed left room_new a c s v) × (0 < len) × (len ≤ room)
passed_more left room room_new a b c s t v head len first second interim room_is =
    let u = first.1 in
    let w = second.1 in
    let is = first.3 in
    let counted = second.3.1 in (
      (
        first.0 ++ second.0,
        u ++ w,
        draws_then left (IsHeadShort (ReadsFinalHead 16384)) (IsHeadShort (ReadsHead IsResponseText room)) a b c s t v first.0 second.0 u w first.2 (λ y short. short_final room u y is short) second.2,
        record {
          counted = omega (arith, is.counted, room_is);
          goes = λ ys reading reads.
              let here : ReadsFinalHead (room - length w) ys reading = subst (λ n. ReadsFinalHead n ys reading) (room_is ∙ ap (λ n. room - n) counted.0) reads in
              subst (λ s. ReadsFinalHead 16384 s reading) (sym (append_assoc u w ys)) (is.goes (w ++ ys) reading (interim_goes room w ys head (second.3.0 ys) interim reading here));
        },
      ),
      counted.1,
      counted.2,
    )

-- a switch of protocols is no interim head
switch_final : (head : ResponseHead) → head.status ≡ 101 → is_interim head ≡ false
switch_final head is = rw is refl

no_switch : (head : ResponseHead) (rest : List ℕ) → (head.status ≡ 101 → ⊥) → without_switch (headed head rest) ≡ headed head rest
no_switch head rest other = ap (λ b. cond b (faulty BadMessage) (headed head rest)) (ne_eqb head.status 101 other)

switch_bad : (head : ResponseHead) (rest : List ℕ) → head.status ≡ 101 → without_switch (headed head rest) ≡ faulty BadMessage
switch_bad head rest is = ap (λ b. cond b (faulty BadMessage) (headed head rest)) (eq-eqb head.status 101 is)

-- the answer tells no interim head, and no switch
abbrev pub TellsFinal : Result (HeadRead ResponseHead) Halt → Type 0
TellsFinal (Ok (read.Whole head len)) = (is_interim head ≡ false) × (head.status ≡ 101 → ⊥)
TellsFinal (Ok read.Nothing) = ⊤
TellsFinal (Ok read.Cut) = ⊤
TellsFinal (Ok (read.Refused flaw)) = ⊤
TellsFinal (Err e) = ⊤

final_found : (room : ℕ) (u w rest : List ℕ) (left : Option (List ℕ)) (r : Result (HeadRead ResponseHead) Halt) → IsPassing ReadsFinalHead 16384 room u → HeadFound (ReadsHead IsResponseText room) w rest left r → TellsFinal r
    → HeadFound (ReadsFinalHead 16384) (u ++ w) rest left r
final_found room u w rest left (Ok (read.Whole head len)) is found final = λ ys.
    let here = subst (λ x. ReadsFinalHead room (w ++ ys) x) (no_switch head ys final.1) (final_reads room (w ++ ys) (headed head ys) (found ys) final.0) in
    subst (λ s. ReadsFinalHead 16384 s (headed head ys)) (sym (append_assoc u w ys)) (is.goes (w ++ ys) (headed head ys) here)
final_found room u w rest left (Ok read.Nothing) is found final =
    (found.0, subst (λ s. ReadsFinalHead 16384 s nothing) (sym (append_assoc u w rest)) (is.goes (w ++ rest) nothing (final_reads room (w ++ rest) nothing found.1 tt)))
final_found room u w rest left (Ok read.Cut) is found final =
    (found.0, subst (λ s. ReadsFinalHead 16384 s cut) (sym (append_assoc u w rest)) (is.goes (w ++ rest) cut (final_reads room (w ++ rest) cut found.1 tt)))
final_found room u w rest left (Ok (read.Refused flaw)) is found final = λ ys.
    subst (λ s. ReadsFinalHead 16384 s (faulty flaw)) (sym (append_assoc u w (rest ++ ys))) (is.goes (w ++ (rest ++ ys)) (faulty flaw) (final_reads room (w ++ (rest ++ ys)) (faulty flaw) (found ys) tt))
final_found room u w rest left (Err e) is found final = tt

both_heads : {S : Type 0} (left : S → Option (List ℕ)) (room : ℕ) (a b c : Buffer) (s t v : S) (m n : List (List ℕ)) (u w : List ℕ) → Draws left (IsHeadShort (ReadsFinalHead 16384)) a b s t m u → IsPassing ReadsFinalHead 16384 room u
    → Draws left (IsHeadShort (ReadsHead IsResponseText room)) b c t v n w → Draws left (IsHeadShort (ReadsFinalHead 16384)) a c s v (m ++ n) (u ++ w)
both_heads left room a b c s t v m n u w first is second =
    draws_then left (IsHeadShort (ReadsFinalHead 16384)) (IsHeadShort (ReadsHead IsResponseText room)) a b c s t v m n u w first (λ y short. short_final room u y is short) second

pub passed_ends : {S : Type 0} (left : S → Option (List ℕ)) (room : ℕ) (a b c : Buffer) (s t v : S) (r : Result (HeadRead ResponseHead) Halt) → Passed left room a b s t → HeadStep left room b c t v r → TellsFinal r → FinalStep left a c s v r
passed_ends left room a b c s t v r first second final = (
  first.0 ++ second.0,
  first.1 ++ second.1,
  both_heads left room a b c s t v first.0 second.0 first.1 second.1 first.2 first.3 second.2,
  final_found room first.1 second.1 c.0 (left v) r first.3 second.3.0 final,
)

pub passed_switch : {S : Type 0} (left : S → Option (List ℕ)) (room : ℕ) (a b c : Buffer) (s t v : S) (head : ResponseHead) (len : ℕ) → Passed left room a b s t → HeadStep left room b c t v (Ok (read.Whole head len)) → head.status ≡ 101
    → FinalStep left a c s v (Ok (read.Refused BadMessage))
passed_switch left room a b c s t v head len first second is =
    let u = first.1 in
    let w = second.1 in (
      first.0 ++ second.0,
      u ++ w,
      both_heads left room a b c s t v first.0 second.0 u w first.2 first.3 second.2,
      (λ ys.
          let here = subst (λ x. ReadsFinalHead room (w ++ (c.0 ++ ys)) x) (switch_bad head (c.0 ++ ys) is) (final_reads room (w ++ (c.0 ++ ys)) (headed head (c.0 ++ ys)) (second.3.0 (c.0 ++ ys)) (switch_final head is)) in
          subst (λ s. ReadsFinalHead 16384 s (faulty BadMessage)) (sym (append_assoc u w (c.0 ++ ys))) (first.3.goes (w ++ (c.0 ++ ys)) (faulty BadMessage) here)),
    )
