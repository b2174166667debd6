-- Heads and a body, as a response.
use Rattle.std.proofs.Common.{Vec, ◌≡◌, ℕ, ◌≤◌, inl, inr, Bool, List, [], ◌++◌, length, Option, Some, None, Result, Ok, Err, refl, sym, ap, ◌∙◌, subst, append_assoc}
use Rattle.std.specs.Prelude.{◌⊎◌}
use Rattle.std.proofs.lemmas.List.{append-nil}
use Rattle.std.specs.declared.alloc.Global.{Global}
use Rattle.std.specs.Io.KnownBytes.{prepend_known}
use Rattle.http_message.specs.Bodies.{BodyReading, whole, unended, refused}
use Rattle.http_message.specs.HeadReadings.{headed, nothing, cut, faulty}
use Rattle.http_message.specs.ResponseMessages.{ReadsFinalHead, ReadsResponseBody, with_response, response, truncated, bad, ReadsResponseMessage}
use Rattle.http_message.specs.Responses.{response_form}
use Rattle.http_message.specs.declared.framing.Form.{Form}
use Rattle.http_message.specs.declared.refusal.Flaw.{Flaw}
use Rattle.http_message.specs.declared.response.ResponseHead.{ResponseHead}
use Rattle.http_message.proofs.Limits.{response_within}
use Rattle.http_wire.specs.Bodies.{BodyFound, IsBodyShort, IsWhole}
use Rattle.http_wire.specs.Heads.{HeadFound, IsHeadShort}
use Rattle.http_wire.specs.Replies.{Replies, TellsReply, IsReply, IsReplyShort, OnResponse, TellsHeadAt, TellsFinalHead, IsHeadShortOf, IsFinalHead}
use Rattle.http_wire.specs.ReplyParts.{ReadsBehind, IsShortBehind, IsBehindHead}
use Rattle.http_wire.specs.Streams.{Buffer, stream, IsEnd, Told, Drew}
use Rattle.http_wire.specs.declared.body.BodyRead.{BodyRead}
use Rattle.http_wire.specs.declared.body.BodyRead.TheVariants as body
use Rattle.http_wire.specs.declared.head.HeadRead.{HeadRead}
use Rattle.http_wire.specs.declared.head.HeadRead.TheVariants as read
use Rattle.http_wire.specs.declared.inbox.Halt.{Halt}
use Rattle.http_wire.specs.declared.responses.FinalHead.{FinalHead}
use Rattle.http_wire.specs.declared.responses.FinalHead.TheVariants as final
use Rattle.http_wire.specs.declared.responses.Reply.{Reply}
use Rattle.http_wire.specs.declared.responses.Reply.TheVariants as reply
use Rattle.http_wire.proofs.Streams.{draws_none, draws_then, draws_weaken, told_draws, all_end}

-- ---- behind the last head

form_reads : (to_head : Bool) (f : Option Form) (head : ResponseHead) (y : List ℕ) (b : BodyReading) → response_form 268435456 to_head head ≡ Ok f → ReadsResponseBody 268435456 (Ok f) y b → ReadsBehind to_head head y (with_response head b)
form_reads to_head f head y b is reads = (b, subst (λ r. ReadsResponseBody 268435456 r y b) (sym is) reads, refl)

flaw_reads : (to_head : Bool) (head : ResponseHead) (y : List ℕ) (flaw : Flaw) → response_form 268435456 to_head head ≡ Err flaw → ReadsBehind to_head head y bad
flaw_reads to_head head y flaw is = (refused flaw, subst (λ r. ReadsResponseBody 268435456 r y (refused flaw)) (sym is) refl, refl)

abbrev pub Behind : {S : Type 0} → (S → Option (List ℕ)) → Bool → ResponseHead → ℕ → (a b : Buffer) → (s t : S) → Result Reply Halt → Type 0
Behind left to_head head at a b s t r = Drew left (IsShortBehind to_head head) a b s t (λ used. IsBehindHead to_head head at used b.0 (left t) r)

pub unformed : {S : Type 0} (left : S → Option (List ℕ)) (to_head : Bool) (head : ResponseHead) (at : ℕ) (a : Buffer) (s : S) (flaw : Flaw) → response_form 268435456 to_head head ≡ Err flaw → Behind left to_head head at a a s s (Ok (reply.Bad at))
unformed left to_head head at a s flaw is = ([], [], draws_none left (IsShortBehind to_head head) a a s s refl refl, (refl, λ ys. flaw_reads to_head head (a.0 ++ ys) flaw is))

-- the reply, by the answer to its body
abbrev pub reply_of : ResponseHead → ℕ → Vec ℕ Global → Result BodyRead Halt → Result Reply Halt
reply_of head at content (Ok body.Whole) = Ok (reply.Response at head.status head.fields content)
reply_of head at content (Ok body.Ended) = Ok (reply.Truncated at)
reply_of head at content (Ok (body.Refused flaw)) = Ok (reply.Bad at)
reply_of head at content (Err e) = Err e

whole_told : (to_head : Bool) (f : Option Form) (head : ResponseHead) (at : ℕ) (content : Vec ℕ Global) (used rest : List ℕ) (left : Option (List ℕ)) → response_form 268435456 to_head head ≡ Ok f → IsWhole 268435456 f content.items used rest left
    → IsBehindHead {E = Halt} to_head head at used rest left (Ok (reply.Response at head.status head.fields content))
whole_told to_head (Some f) head at content used rest left is found = (refl, inl (λ ys. form_reads to_head (Some f) head (used ++ ys) (whole content.items ys) is (found ys)))
whole_told to_head None head at content used rest left is found = (refl, inr (found.0, found.1, form_reads to_head None head (used ++ rest) (whole content.items []) is found.2))

body_told : (to_head : Bool) (f : Option Form) (head : ResponseHead) (at : ℕ) (content : Vec ℕ Global) (used rest : List ℕ) (left : Option (List ℕ)) (r : Result BodyRead Halt) → response_form 268435456 to_head head ≡ Ok f
    → BodyFound 268435456 f content.items used rest left r → IsBehindHead to_head head at used rest left (reply_of head at content r)
body_told to_head f head at content used rest left (Ok body.Whole) is found = whole_told to_head f head at content used rest left is found
body_told to_head f head at content used rest left (Ok body.Ended) is found = (refl, found.0, form_reads to_head f head (used ++ rest) unended is found.1)
body_told to_head f head at content used rest left (Ok (body.Refused flaw)) is found = (refl, λ ys. form_reads to_head f head (used ++ (rest ++ ys)) (refused flaw) is (found ys))
body_told to_head f head at content used rest left (Err e) is found = tt

short_behind : (to_head : Bool) (f : Option Form) (head : ResponseHead) (y : List ℕ) → response_form 268435456 to_head head ≡ Ok f → IsBodyShort 268435456 f y → IsShortBehind to_head head y
short_behind to_head (Some f) head y is short = inl (form_reads to_head (Some f) head y unended is short)
short_behind to_head None head y is short = inr (is, short)

pub formed : {S : Type 0} (left : S → Option (List ℕ)) (to_head : Bool) (f : Option Form) (head : ResponseHead) (at : ℕ) (content : Vec ℕ Global) (a b : Buffer) (s t : S) (r : Result BodyRead Halt) → response_form 268435456 to_head head ≡ Ok f
    → Drew left (IsBodyShort 268435456 f) a b s t (λ used. BodyFound 268435456 f content.items used b.0 (left t) r) → Behind left to_head head at a b s t (reply_of head at content r)
formed left to_head f head at content a b s t r is read = (
  read.0,
  read.1,
  draws_weaken left (IsShortBehind to_head head) (IsBodyShort 268435456 f) a b s t read.0 read.1 (λ y short. short_behind to_head f head y is short) read.2,
  body_told to_head f head at content read.1 b.0 (left t) r is read.3,
)

-- ---- the response

abbrev pub Read : {S : Type 0} → (S → Option (List ℕ)) → Bool → (a b : Buffer) → (s t : S) → Result Reply Halt → Type 0
Read left to_head a b s t r = Drew left (IsReplyShort to_head) a b s t (λ used. IsReply to_head a.1 used b.0 (left t) r)

abbrev pub HeadTold : {S : Type 0} → (S → Option (List ℕ)) → (a b : Buffer) → (s t : S) → Result (HeadRead ResponseHead) Halt → Type 0
HeadTold left a b s t r = Drew left (IsHeadShort (ReadsFinalHead 16384)) a b s t (λ used. HeadFound (ReadsFinalHead 16384) used b.0 (left t) r)

short_reply : (to_head : Bool) (y : List ℕ) → IsHeadShort (ReadsFinalHead 16384) y → IsReplyShort to_head y
short_reply to_head y (inl none) = inl (nothing, none, refl)
short_reply to_head y (inr open_head) = inl (cut, open_head, refl)

-- a head that isn't whole
abbrev pub without_body : ℕ → Result (HeadRead ResponseHead) Halt → Result Reply Halt
without_body at (Ok (read.Whole head len)) = Ok reply.ReadFault
without_body at (Ok read.Nothing) = Ok (reply.Truncated at)
without_body at (Ok read.Cut) = Ok (reply.Truncated at)
without_body at (Ok (read.Refused flaw)) = Ok (reply.Bad at)
without_body at (Err e) = Err e

headless_reply : (to_head : Bool) (at place : ℕ) (used rest : List ℕ) (left : Option (List ℕ)) (r : Result (HeadRead ResponseHead) Halt) → at ≡ place → HeadFound (ReadsFinalHead 16384) used rest left r → IsReply to_head place used rest left (without_body at r)
headless_reply to_head at place used rest left (Ok (read.Whole head len)) here found = tt
headless_reply to_head at place used rest left (Ok read.Nothing) here found = (here, found.0, (nothing, found.1, refl))
headless_reply to_head at place used rest left (Ok read.Cut) here found = (here, found.0, (cut, found.1, refl))
headless_reply to_head at place used rest left (Ok (read.Refused flaw)) here found = (here, λ ys. (faulty flaw, found ys, refl))
headless_reply to_head at place used rest left (Err e) here found = tt

pub headless_read : {S : Type 0} (left : S → Option (List ℕ)) (to_head : Bool) (at : ℕ) (a b : Buffer) (s t : S) (r : Result (HeadRead ResponseHead) Halt) → at ≡ a.1 → HeadTold left a b s t r → Read left to_head a b s t (without_body at r)
headless_read left to_head at a b s t r here told =
    (told.0, told.1, draws_weaken left (IsReplyShort to_head) (IsHeadShort (ReadsFinalHead 16384)) a b s t told.0 told.1 (short_reply to_head) told.2, headless_reply to_head at a.1 told.1 b.0 (left t) r here told.3)

behind_reply : (to_head : Bool) (head : ResponseHead) (at place : ℕ) (u w rest : List ℕ) (left : Option (List ℕ)) (r : Result Reply Halt) → at ≡ place → ((ys : List ℕ) → ReadsFinalHead 16384 (u ++ ys) (headed head ys)) → IsBehindHead to_head head at w rest left r
    → IsReply to_head place (u ++ w) rest left r
behind_reply to_head head at place u w rest left (Ok (reply.Response n status fields content)) here found told = (told.0 ∙ here, by_end told.1)
  where
    by_end : (((ys : List ℕ) → ReadsBehind to_head head (w ++ ys) (response status fields content.items ys)) ⊎ (IsEnd left × (rest ≡ []) × ReadsBehind to_head head (w ++ rest) (response status fields content.items [])))
        → (((ys : List ℕ) → ReadsResponseMessage to_head ((u ++ w) ++ ys) (response status fields content.items ys)) ⊎ (IsEnd left × (rest ≡ []) × ReadsResponseMessage to_head ((u ++ w) ++ rest) (response status fields content.items [])))
    by_end (inl all) = inl (λ ys. subst (λ s. ReadsResponseMessage to_head s (response status fields content.items ys)) (sym (append_assoc u w ys)) (headed head (w ++ ys), found (w ++ ys), all ys))
    by_end (inr end) = inr (end.0, end.1, subst (λ s. ReadsResponseMessage to_head s (response status fields content.items [])) (sym (append_assoc u w rest)) (headed head (w ++ rest), found (w ++ rest), end.2))
behind_reply to_head head at place u w rest left (Ok (reply.Truncated n)) here found told =
    (told.0 ∙ here, told.1, subst (λ s. ReadsResponseMessage to_head s truncated) (sym (append_assoc u w rest)) (headed head (w ++ rest), found (w ++ rest), told.2))
behind_reply to_head head at place u w rest left (Ok (reply.Bad n)) here found told =
    (told.0 ∙ here, λ ys. subst (λ s. ReadsResponseMessage to_head s bad) (sym (append_assoc u w (rest ++ ys))) (headed head (w ++ (rest ++ ys)), found (w ++ (rest ++ ys)), told.1 ys))
behind_reply to_head head at place u w rest left (Ok reply.ReadFault) here found told = absurd told
behind_reply to_head head at place u w rest left (Err e) here found told = tt

lift_short : (to_head : Bool) (head : ResponseHead) (u y : List ℕ) → ((ys : List ℕ) → ReadsFinalHead 16384 (u ++ ys) (headed head ys)) → IsShortBehind to_head head y → IsReplyShort to_head (u ++ y)
lift_short to_head head u y found (inl short) = inl (headed head y, found y, short)
lift_short to_head head u y found (inr goes) = inr (head, y, found y, goes.0, goes.1)

pub headed_read : {S : Type 0} (left : S → Option (List ℕ)) (to_head : Bool) (head : ResponseHead) (len at : ℕ) (a b c : Buffer) (s t v : S) (r : Result Reply Halt) → at ≡ a.1 → HeadTold left a b s t (Ok (read.Whole head len)) → Behind left to_head head at b c t v r
    → Read left to_head a c s v r
headed_read left to_head head len at a b c s t v r here told behind =
    let u = told.1 in (
      told.0 ++ behind.0,
      u ++ behind.1,
      draws_then left (IsReplyShort to_head) (IsShortBehind to_head head) a b c s t v told.0 behind.0 u behind.1
          (draws_weaken left (IsReplyShort to_head) (IsHeadShort (ReadsFinalHead 16384)) a b s t told.0 u (short_reply to_head) told.2) (λ y short. lift_short to_head head u y told.3 short) behind.2,
      behind_reply to_head head at a.1 u behind.1 c.0 (left v) r here told.3 behind.3,
    )

-- ---- what a caller sees

-- by whichever error
pub same_reply : (E F : Type 0) (to_head : Bool) (place : ℕ) (used rest : List ℕ) (left : Option (List ℕ)) (m : Reply) → IsReply {E = E} to_head place used rest left (Ok m) → IsReply {E = F} to_head place used rest left (Ok m)
same_reply E F to_head place used rest left (reply.Response n status fields content) is = is
same_reply E F to_head place used rest left (reply.Truncated n) is = is
same_reply E F to_head place used rest left (reply.Bad n) is = is
same_reply E F to_head place used rest left reply.ReadFault is = is

told_reply : {E : Type 0} (to_head : Bool) (place : ℕ) (used rest zs : List ℕ) (left : Option (List ℕ)) (r : Result Reply E) → left ≡ Some zs → IsReply to_head place used rest left r
    → Replies (ReadsResponseMessage to_head (used ++ (rest ++ zs))) place (rest ++ zs) r
told_reply to_head place used rest zs left (Ok (reply.Response n status fields content)) is told = (told.0, by_end told.1)
  where
    by_end : (((ys : List ℕ) → ReadsResponseMessage to_head (used ++ ys) (response status fields content.items ys)) ⊎ (IsEnd left × (rest ≡ []) × ReadsResponseMessage to_head (used ++ rest) (response status fields content.items [])))
        → ReadsResponseMessage to_head (used ++ (rest ++ zs)) (response status fields content.items (rest ++ zs))
    by_end (inl all) = all (rest ++ zs)
    by_end (inr end) =
        let none : rest ≡ rest ++ zs = sym (append-nil rest) ∙ ap (λ x. rest ++ x) (sym (all_end left zs is end.0)) in
        let empty : [] ≡ rest ++ zs = sym end.1 ∙ none in
        subst (λ x. ReadsResponseMessage to_head (used ++ (rest ++ zs)) (response status fields content.items x)) empty (subst (λ x. ReadsResponseMessage to_head (used ++ x) (response status fields content.items [])) none end.2)
told_reply to_head place used rest zs left (Ok (reply.Truncated n)) is told =
    (told.0, subst (λ x. ReadsResponseMessage to_head (used ++ x) truncated) (sym (append-nil rest) ∙ ap (λ x. rest ++ x) (sym (all_end left zs is told.1))) told.2)
told_reply to_head place used rest zs left (Ok (reply.Bad n)) is told = (told.0, told.1 zs)
told_reply to_head place used rest zs left (Ok reply.ReadFault) is told = tt
told_reply to_head place used rest zs left (Err e) is told = tt

pub told_read : {S E : Type 0} (left : S → Option (List ℕ)) (to_head : Bool) (a b : Buffer) (s t : S) (r : Result Reply E) → Drew left (IsReplyShort to_head) a b s t (λ used. IsReply to_head a.1 used b.0 (left t) r)
    → Told (stream a (left s)) (stream b (left t)) (λ xs ys. TellsReply to_head xs a.1 ys b.1 r)
told_read left to_head a b s t r read = λ xs told.
    let f = told_draws left (IsReplyShort to_head) a b s t read.0 read.1 read.2 xs told in
    let replies = told_reply to_head a.1 read.1 b.0 f.0 (left t) r f.1 read.3 in (
      b.0 ++ f.0,
      ap (prepend_known b.0) f.1,
      record { moves = f.3; replies = subst (λ x. Replies (ReadsResponseMessage to_head x) a.1 (b.0 ++ f.0) r) (sym f.2) replies },
    )

pub within : {S E : Type 0} (left : S → Option (List ℕ)) (to_head : Bool) (a b : Buffer) (s t : S) (r : Result Reply E) → Drew left (IsReplyShort to_head) a b s t (λ used. IsReply to_head a.1 used b.0 (left t) r)
    → OnResponse r (λ content. length content ≤ 268435456)
within left to_head a b s t r read = by_reply r read.3
  where
    by_reply : {E : Type 0} (r : Result Reply E) → IsReply to_head a.1 read.1 b.0 (left t) r → OnResponse r (λ content. length content ≤ 268435456)
    by_reply (Ok (reply.Response n status fields content)) is = by_end is.1
      where
        by_end : (((ys : List ℕ) → ReadsResponseMessage to_head (read.1 ++ ys) (response status fields content.items ys)) ⊎ (IsEnd (left t) × (b.0 ≡ []) × ReadsResponseMessage to_head (read.1 ++ b.0) (response status fields content.items [])))
            → length content.items ≤ 268435456
        by_end (inl all) = response_within to_head (read.1 ++ []) status fields content.items [] (all [])
        by_end (inr end) = response_within to_head (read.1 ++ b.0) status fields content.items [] end.2
    by_reply (Ok (reply.Truncated n)) is = tt
    by_reply (Ok (reply.Bad n)) is = tt
    by_reply (Ok reply.ReadFault) is = tt
    by_reply (Err e) is = tt

-- ---- a head alone

abbrev pub final_of : ℕ → HeadRead ResponseHead → FinalHead
final_of at (read.Whole head len) = final.Head at head
final_of at read.Nothing = final.Truncated at
final_of at read.Cut = final.Truncated at
final_of at (read.Refused flaw) = final.Bad at

head_told : (E : Type 0) (at place : ℕ) (used rest : List ℕ) (left : Option (List ℕ)) (r : HeadRead ResponseHead) → at ≡ place → HeadFound {E = Halt} (ReadsFinalHead 16384) used rest left (Ok r) → IsFinalHead {E = E} place used rest left (Ok (final_of at r))
head_told E at place used rest left (read.Whole head len) here found = (here, found)
head_told E at place used rest left read.Nothing here found = (here, found.0, inl found.1)
head_told E at place used rest left read.Cut here found = (here, found.0, inr found.1)
head_told E at place used rest left (read.Refused flaw) here found = (here, flaw, found)

abbrev pub HeadAlone : {S : Type 0} → (E : Type 0) → (S → Option (List ℕ)) → (a b : Buffer) → (s t : S) → Result FinalHead E → Type 0
HeadAlone E left a b s t r = Drew left IsHeadShortOf a b s t (λ used. IsFinalHead a.1 used b.0 (left t) r)

pub head_alone : {S : Type 0} (E : Type 0) (left : S → Option (List ℕ)) (at : ℕ) (a b : Buffer) (s t : S) (r : HeadRead ResponseHead) → at ≡ a.1 → HeadTold left a b s t (Ok r) → HeadAlone E left a b s t (Ok (final_of at r))
head_alone E left at a b s t r here told = (told.0, told.1, told.2, head_told E at a.1 told.1 b.0 (left t) r here told.3)

pub same_head_alone : (E F : Type 0) (place : ℕ) (used rest : List ℕ) (left : Option (List ℕ)) (m : FinalHead) → IsFinalHead {E = E} place used rest left (Ok m) → IsFinalHead {E = F} place used rest left (Ok m)
same_head_alone E F place used rest left (final.Head n head) is = is
same_head_alone E F place used rest left (final.Truncated n) is = is
same_head_alone E F place used rest left (final.Bad n) is = is
same_head_alone E F place used rest left final.ReadFault is = is

told_head : {E : Type 0} (place : ℕ) (used rest zs : List ℕ) (left : Option (List ℕ)) (r : Result FinalHead E) → left ≡ Some zs → IsFinalHead place used rest left r → TellsHeadAt (ReadsFinalHead 16384 (used ++ (rest ++ zs))) place (rest ++ zs) r
told_head place used rest zs left (Ok (final.Head n head)) is told = (told.0, told.1 (rest ++ zs))
told_head place used rest zs left (Ok (final.Truncated n)) is told =
    (told.0, subst (λ x. IsHeadShortOf (used ++ x)) (sym (append-nil rest) ∙ ap (λ x. rest ++ x) (sym (all_end left zs is told.1))) told.2)
told_head place used rest zs left (Ok (final.Bad n)) is told = (told.0, told.1, told.2 zs)
told_head place used rest zs left (Ok final.ReadFault) is told = tt
told_head place used rest zs left (Err e) is told = tt

pub told_alone : {S : Type 0} (E : Type 0) (left : S → Option (List ℕ)) (a b : Buffer) (s t : S) (r : Result FinalHead E) → HeadAlone E left a b s t r → Told (stream a (left s)) (stream b (left t)) (λ xs ys. TellsFinalHead xs a.1 ys b.1 r)
told_alone E left a b s t r read = λ xs told.
    let f = told_draws left IsHeadShortOf a b s t read.0 read.1 read.2 xs told in
    let tells = told_head a.1 read.1 b.0 f.0 (left t) r f.1 read.3 in (
      b.0 ++ f.0,
      ap (prepend_known b.0) f.1,
      record { moves = f.3; tells = subst (λ x. TellsHeadAt (ReadsFinalHead 16384 x) a.1 (b.0 ++ f.0) r) (sym f.2) tells },
    )
