-- A head and a body, as a message.
use Rattle.std.proofs.Common.{Vec, ◌≡◌, ℕ, ◌≤◌, inl, inr, true, false, List, [], ◌∷◌, ◌++◌, length, Option, Some, Result, Ok, Err, refl, sym, ap, ◌∙◌, subst, append_assoc}
use Rattle.std.proofs.lemmas.List.{append-nil}
use Rattle.std.specs.declared.alloc.Global.{Global}
use Rattle.std.specs.Io.KnownBytes.{prepend_known}
use Rattle.http_message.specs.Bodies.{BodyReading, whole, unended, refused, ReadsBody}
use Rattle.http_message.specs.Framing.{closes, request_form}
use Rattle.http_message.specs.HeadReadings.{headed, nothing, cut, faulty, ReadsHead}
use Rattle.http_message.specs.Heads.{IsHeadText}
use Rattle.http_message.specs.Messages.{Reading, request, ended, truncated, bad, with_head, ReadsMessage}
use Rattle.http_message.specs.ResponseMessages.{ReadsResponseBody}
use Rattle.http_message.specs.declared.framing.Form.{Form}
use Rattle.http_message.specs.declared.head.Head.{Head}
use Rattle.http_message.specs.declared.refusal.Flaw.{Flaw}
use Rattle.http_message.proofs.Limits.{request_within}
use Rattle.http_message.proofs.Unique.{reading_unique}
use Rattle.http_wire.specs.Bodies.{BodyFound, IsBodyShort}
use Rattle.http_wire.specs.Heads.{HeadFound, IsHeadShort, IsCounted}
use Rattle.http_wire.specs.Messages.{ReadsBehind, IsShortBehind, IsBehindHead, IsNoFault}
use Rattle.http_wire.specs.Streams.{Buffer, stream, Told, EachShort, Draws, Drew}
use Rattle.http_wire.specs.Wires.{Answers, TellsMessage, IsAnswer, IsShort, is_settled, is_fault, OnRequest, HoldsAnswer}
use Rattle.http_wire.specs.declared.body.BodyRead.{BodyRead}
use Rattle.http_wire.specs.declared.body.BodyRead.TheVariants as body
use Rattle.http_wire.specs.declared.head.HeadRead.{HeadRead}
use Rattle.http_wire.specs.declared.head.HeadRead.TheVariants as read
use Rattle.http_wire.specs.declared.inbox.Halt.{Halt}
use Rattle.http_wire.specs.declared.wire.Message.{Message}
use Rattle.http_wire.specs.declared.wire.Message.TheVariants as message
use Rattle.http_wire.proofs.Streams.{draws_none, draws_then, draws_weaken, told_draws, all_end}

-- ---- behind the head

form_reads : (f : Form) (head : Head) (y : List ℕ) (b : BodyReading) → request_form 16777216 head ≡ Ok f → ReadsResponseBody 16777216 (Ok (Some f)) y b → ReadsBehind head y (with_head head b)
form_reads f head y b is reads = (b, subst (λ r. ReadsBody 16777216 r y b) (sym is) reads, refl)

flaw_reads : (head : Head) (y : List ℕ) (flaw : Flaw) → request_form 16777216 head ≡ Err flaw → ReadsBehind head y (bad flaw)
flaw_reads head y flaw is = (refused flaw, subst (λ r. ReadsBody 16777216 r y (refused flaw)) (sym is) refl, refl)

abbrev pub Behind : {S : Type 0} → (S → Option (List ℕ)) → Head → ℕ → (a b : Buffer) → (s t : S) → Result Message Halt → Type 0
Behind left head at a b s t r = Drew left (IsShortBehind head) a b s t (λ used. IsBehindHead head at used b.0 (left t) r)

pub unformed : {S : Type 0} (left : S → Option (List ℕ)) (head : Head) (at : ℕ) (a : Buffer) (s : S) (flaw : Flaw) → request_form 16777216 head ≡ Err flaw → Behind left head at a a s s (Ok (message.Bad at flaw))
unformed left head at a s flaw is = ([], [], draws_none left (IsShortBehind head) a a s s refl refl, (refl, λ ys. flaw_reads head (a.0 ++ ys) flaw is))

-- the message, by the answer to its body
abbrev pub message_of : Head → ℕ → Vec ℕ Global → Result BodyRead Halt → Result Message Halt
message_of head at content (Ok body.Whole) = Ok (message.Request at head content (closes head.minor head.fields))
message_of head at content (Ok body.Ended) = Ok (message.Truncated at)
message_of head at content (Ok (body.Refused flaw)) = Ok (message.Bad at flaw)
message_of head at content (Err e) = Err e

body_told : (f : Form) (head : Head) (at : ℕ) (content : Vec ℕ Global) (used rest : List ℕ) (left : Option (List ℕ)) (r : Result BodyRead Halt) → request_form 16777216 head ≡ Ok f → BodyFound 16777216 (Some f) content.items used rest left r
    → IsBehindHead head at used rest left (message_of head at content r)
body_told f head at content used rest left (Ok body.Whole) is found = (refl, λ ys. form_reads f head (used ++ ys) (whole content.items ys) is (found ys))
body_told f head at content used rest left (Ok body.Ended) is found = (refl, found.0, form_reads f head (used ++ rest) unended is found.1)
body_told f head at content used rest left (Ok (body.Refused flaw)) is found = (refl, λ ys. form_reads f head (used ++ (rest ++ ys)) (refused flaw) is (found ys))
body_told f head at content used rest left (Err e) is found = tt

pub formed : {S : Type 0} (left : S → Option (List ℕ)) (f : Form) (head : Head) (at : ℕ) (content : Vec ℕ Global) (a b : Buffer) (s t : S) (r : Result BodyRead Halt) → request_form 16777216 head ≡ Ok f
    → Drew left (IsBodyShort 16777216 (Some f)) a b s t (λ used. BodyFound 16777216 (Some f) content.items used b.0 (left t) r) → Behind left head at a b s t (message_of head at content r)
formed left f head at content a b s t r is read = (
  read.0,
  read.1,
  draws_weaken left (IsShortBehind head) (IsBodyShort 16777216 (Some f)) a b s t read.0 read.1 (λ y short. form_reads f head y unended is short) read.2,
  body_told f head at content read.1 b.0 (left t) r is read.3,
)

-- ---- the message

abbrev pub Read : {S : Type 0} → (S → Option (List ℕ)) → (a b : Buffer) → (s t : S) → Result Message Halt → Type 0
Read left a b s t r = Drew left IsShort a b s t (λ used. IsAnswer a.1 used b.0 (left t) r)

abbrev pub HeadTold : {S : Type 0} → (S → Option (List ℕ)) → (a b : Buffer) → (s t : S) → Result (HeadRead Head) Halt → Type 0
HeadTold left a b s t r = Drew left (IsHeadShort (ReadsHead IsHeadText 16384)) a b s t (λ used. HeadFound (ReadsHead IsHeadText 16384) used b.0 (left t) r × IsCounted 16384 used r)

short_message : (y : List ℕ) → IsHeadShort (ReadsHead IsHeadText 16384) y → IsShort y
short_message y (inl none) = inl (nothing, none, refl)
short_message y (inr open_head) = inr (cut, open_head, refl)

-- a head that isn't whole
abbrev pub without_body : ℕ → Result (HeadRead Head) Halt → Result Message Halt
without_body at (Ok (read.Whole head len)) = Ok message.ReadFault
without_body at (Ok read.Nothing) = Ok message.End
without_body at (Ok read.Cut) = Ok (message.Truncated at)
without_body at (Ok (read.Refused flaw)) = Ok (message.Bad at flaw)
without_body at (Err e) = Err e

headless_answer : (at place : ℕ) (used rest : List ℕ) (left : Option (List ℕ)) (r : Result (HeadRead Head) Halt) → at ≡ place → HeadFound (ReadsHead IsHeadText 16384) used rest left r → IsAnswer place used rest left (without_body at r)
headless_answer at place used rest left (Ok (read.Whole head len)) here found = tt
headless_answer at place used rest left (Ok read.Nothing) here found = (found.0, (nothing, found.1, refl))
headless_answer at place used rest left (Ok read.Cut) here found = (here, found.0, (cut, found.1, refl))
headless_answer at place used rest left (Ok (read.Refused flaw)) here found = (here, λ ys. (faulty flaw, found ys, refl))
headless_answer at place used rest left (Err e) here found = tt

pub headless_read : {S : Type 0} (left : S → Option (List ℕ)) (at : ℕ) (a b : Buffer) (s t : S) (r : Result (HeadRead Head) Halt) → at ≡ a.1 → HeadTold left a b s t r → Read left a b s t (without_body at r)
headless_read left at a b s t r here told =
    (told.0, told.1, draws_weaken left IsShort (IsHeadShort (ReadsHead IsHeadText 16384)) a b s t told.0 told.1 short_message told.2, headless_answer at a.1 told.1 b.0 (left t) r here told.3.0)

behind_answer : (head : Head) (at place : ℕ) (u w rest : List ℕ) (left : Option (List ℕ)) (r : Result Message Halt) → at ≡ place → ((ys : List ℕ) → ReadsHead IsHeadText 16384 (u ++ ys) (headed head ys)) → IsBehindHead head at w rest left r
    → IsAnswer place (u ++ w) rest left r
behind_answer head at place u w rest left (Ok (message.Request n h content closing)) here found told =
    (told.0 ∙ here, λ ys. subst (λ s. ReadsMessage s (request h content.items closing ys)) (sym (append_assoc u w ys)) (headed head (w ++ ys), found (w ++ ys), told.1 ys))
behind_answer head at place u w rest left (Ok message.End) here found told = absurd told
behind_answer head at place u w rest left (Ok (message.Truncated n)) here found told =
    (told.0 ∙ here, told.1, subst (λ s. ReadsMessage s truncated) (sym (append_assoc u w rest)) (headed head (w ++ rest), found (w ++ rest), told.2))
behind_answer head at place u w rest left (Ok (message.Bad n flaw)) here found told =
    (told.0 ∙ here, λ ys. subst (λ s. ReadsMessage s (bad flaw)) (sym (append_assoc u w (rest ++ ys))) (headed head (w ++ (rest ++ ys)), found (w ++ (rest ++ ys)), told.1 ys))
behind_answer head at place u w rest left (Ok message.ReadFault) here found told = absurd told
behind_answer head at place u w rest left (Err e) here found told = tt

pub headed_read : {S : Type 0} (left : S → Option (List ℕ)) (head : Head) (len at : ℕ) (a b c : Buffer) (s t v : S) (r : Result Message Halt) → at ≡ a.1 → HeadTold left a b s t (Ok (read.Whole head len)) → Behind left head at b c t v r
    → Read left a c s v r
headed_read left head len at a b c s t v r here told behind =
    let u = told.1 in (
      told.0 ++ behind.0,
      u ++ behind.1,
      draws_then left IsShort (IsShortBehind head) a b c s t v told.0 behind.0 u behind.1
          (draws_weaken left IsShort (IsHeadShort (ReadsHead IsHeadText 16384)) a b s t told.0 u short_message told.2) (λ y short. inr (headed head y, told.3.0 y, short)) behind.2,
      behind_answer head at a.1 u behind.1 c.0 (left v) r here told.3.0 behind.3,
    )

-- ---- what a caller sees

pub no_fault : (E : Type 0) {X : Type 0} (m : Message) → IsNoFault {E = E} (Ok m) → is_fault {E = E} (Ok m) ≡ true → X
no_fault E message.ReadFault sound fault = absurd sound
no_fault E (message.Request n h content closing) sound fault = absurd cc
no_fault E message.End sound fault = absurd cc
no_fault E (message.Truncated n) sound fault = absurd cc
no_fault E (message.Bad n flaw) sound fault = absurd cc

-- by whichever error
pub same_answer : (E F : Type 0) (place : ℕ) (used rest : List ℕ) (left : Option (List ℕ)) (m : Message) → IsAnswer {E = E} place used rest left (Ok m) → IsAnswer {E = F} place used rest left (Ok m)
same_answer E F place used rest left (message.Request n h content closing) is = is
same_answer E F place used rest left message.End is = is
same_answer E F place used rest left (message.Truncated n) is = is
same_answer E F place used rest left (message.Bad n flaw) is = is
same_answer E F place used rest left message.ReadFault is = is

told_answer : {E : Type 0} (place : ℕ) (used rest zs : List ℕ) (left : Option (List ℕ)) (r : Result Message E) → left ≡ Some zs → IsAnswer place used rest left r → Answers (ReadsMessage (used ++ (rest ++ zs))) place (rest ++ zs) r
told_answer place used rest zs left (Ok (message.Request n h content closing)) is answer = (answer.0, answer.1 (rest ++ zs))
told_answer place used rest zs left (Ok message.End) is answer =
    subst (λ x. ReadsMessage (used ++ x) ended) (sym (append-nil rest) ∙ ap (λ x. rest ++ x) (sym (all_end left zs is answer.0))) answer.1
told_answer place used rest zs left (Ok (message.Truncated n)) is answer =
    (answer.0, subst (λ x. ReadsMessage (used ++ x) truncated) (sym (append-nil rest) ∙ ap (λ x. rest ++ x) (sym (all_end left zs is answer.1))) answer.2)
told_answer place used rest zs left (Ok (message.Bad n flaw)) is answer = (answer.0, answer.1 zs)
told_answer place used rest zs left (Ok message.ReadFault) is answer = tt
told_answer place used rest zs left (Err e) is answer = tt

pub told_read : {S E : Type 0} (left : S → Option (List ℕ)) (a b : Buffer) (s t : S) (r : Result Message E) → Drew left IsShort a b s t (λ used. IsAnswer a.1 used b.0 (left t) r)
    → Told (stream a (left s)) (stream b (left t)) (λ xs ys. TellsMessage xs a.1 ys b.1 r)
told_read left a b s t r read = λ xs told.
    let f = told_draws left IsShort a b s t read.0 read.1 read.2 xs told in
    let answers = told_answer a.1 read.1 b.0 f.0 (left t) r f.1 read.3 in (
      b.0 ++ f.0,
      ap (prepend_known b.0) f.1,
      record { moves = f.3; answers = subst (λ x. Answers (ReadsMessage x) a.1 (b.0 ++ f.0) r) (sym f.2) answers },
    )

not_short : (bytes : List ℕ) (reading : Reading) → ReadsMessage bytes reading → is_settled reading ≡ true → IsShort bytes → ⊥
not_short bytes reading reads settled (inl end) = clash (ap is_settled (reading_unique 16777216 bytes ended reading end reads) ∙ settled)
  where
    clash : false ≡ true → ⊥
    clash e = cc
not_short bytes reading reads settled (inr short) = clash (ap is_settled (reading_unique 16777216 bytes truncated reading short reads) ∙ settled)
  where
    clash : false ≡ true → ⊥
    clash e = cc

no_reads : (pieces : List (List ℕ)) (bytes : List ℕ) → HoldsAnswer bytes → EachShort IsShort bytes pieces → pieces ≡ []
no_reads [] bytes holds each = refl
no_reads (piece ∷ pieces) bytes holds each = absurd (not_short bytes holds.0 holds.1 holds.2 each.0)

pub spared_read : {S : Type 0} (left : S → Option (List ℕ)) (a b : Buffer) (s t : S) (pieces : List (List ℕ)) (used : List ℕ) → Draws left IsShort a b s t pieces used → HoldsAnswer a.0 → t ≡ s
spared_read left a b s t pieces used draws holds = draws.spared (no_reads pieces a.0 holds draws.each)

pub within : {S E : Type 0} (left : S → Option (List ℕ)) (a b : Buffer) (s t : S) (r : Result Message E) → Drew left IsShort a b s t (λ used. IsAnswer a.1 used b.0 (left t) r) → OnRequest r (λ content. length content ≤ 16777216)
within left a b s t r read = by_answer r read.3
  where
    by_answer : {E : Type 0} (r : Result Message E) → IsAnswer a.1 read.1 b.0 (left t) r → OnRequest r (λ content. length content ≤ 16777216)
    by_answer (Ok (message.Request n h content closing)) is = request_within (read.1 ++ []) h content.items closing [] (is.1 [])
    by_answer (Ok message.End) is = tt
    by_answer (Ok (message.Truncated n)) is = tt
    by_answer (Ok (message.Bad n flaw)) is = tt
    by_answer (Ok message.ReadFault) is = tt
    by_answer (Err e) is = tt
