-- Responses, written whole or in part.
use Rattle.std.proofs.Common.{◌≡◌, inl, inr, ⊎_elim, ℕ, Bool, true, false, cond, ◌&&◌, nat_le, nat_lt, ◌<◌, List, [], ◌++◌, ◌+◌, ◌-◌, length, take, drop, Option, Some, Result, Ok, Err, None, refl, sym, ap, ◌∙◌, subst, arith}
use Rattle.std.proofs.Math.Seq.{take-length}
use Rattle.std.proofs.lemmas.Bool.Decides.{nat_tests}
use Rattle.std.specs.declared.alloc.AllocError.{AllocError}
use Rattle.std.specs.Io.KnownBytes.{append_known}
use Rattle.case_table.specs.declared.refuse.Refusal.TheVariants as refusal
use Rattle.edge_core.specs.Faults.{Rose}
use Rattle.edge_core.specs.Objects.{Lacks, Objects}
use Rattle.file_ranges.specs.Picks.{pick}
use Rattle.file_ranges.specs.Ranges.{IsRange, Range, bytes_at}
use Rattle.file_ranges.specs.declared.pick.Picked.{Picked}
use Rattle.file_ranges.specs.declared.pick.Picked.TheVariants as picked
use Rattle.file_ranges.specs.declared.span.Span.{Span}
use Rattle.response_text.specs.declared.head.ContentType.TheVariants as content
use Rattle.response_text.specs.declared.status.Status.{Status}
use Rattle.response_text.specs.declared.status.Status.TheVariants as status
use Rattle.share_reply.specs.Answer.{Answer}
use Rattle.share_reply.specs.Bodies.{reply_of}
use Rattle.share_reply.specs.Formats.{body_of}
use Rattle.share_reply.specs.Chains.{NextIsSpelt}
use Rattle.share_reply.specs.Refusing.{plain}
use Rattle.share_reply.specs.declared.keys.ReplyKeys.{ReplyKeys}
use Rattle.share_reply.specs.declared.plan.Plan.{Plan}
use Rattle.share_reply.specs.declared.plan.Plan.TheVariants as plan
use Rattle.share_request.specs.declared.asked.ResponseFormat.{ResponseFormat}
use Rattle.share_serve.specs.Responses.{body_sent, bytes_response, file_response, lines_response, object_response, out_response, picked_response, refusal_response, response_head, response_text}
use Rattle.share_serve.specs.Sends.{BodySent, CopySent, FileSent, HasSize, IsInPart, IsSent, IsWritten, PartSent, WholeSent, Writes, delivered_of}
use Rattle.share_serve.specs.Turns.{IsObject, ObjectIs, OnlyLooks, ReplyIs, Shelf}
use Rattle.share_serve.specs.declared.response.Delivery.{Delivery}
use Rattle.share_serve.specs.declared.response.Response.{Response}
use Rattle.share_serve.specs.declared.send.Delivered.{Delivered}
use Rattle.share_serve.specs.declared.send.Delivered.TheVariants as delivered
use Rattle.share_serve.specs.declared.send.Sent.{Sent}
use Rattle.share_serve.specs.declared.send.Sent.TheVariants as sent
use Rattle.share_serve.proofs.Basics.{append_known-append, append_known-nil}
use Rattle.share_serve.proofs.Copying.{nothing, range_length, read_none, whole}
use Rattle.share_serve.proofs.Sent.{flushed, head_in_part, head_is, none_sent, response_sent}

-- a response that was written as a text
pub written_of : (s : Sent) (d : Delivery) (r : Response) (w w' : Option (List ℕ)) → IsSent s (response_text d r) w w' → IsWritten (delivered_of s) d r w w'
written_of sent.Whole d r w w' s = s
written_of sent.WriteFault d r w w' s = s
written_of sent.NoMemory d r w w' s = s

-- no byte of a response was written, since memory was wanting
pub none_written : (d : Delivery) (r : Response) (w : Option (List ℕ)) → IsWritten delivered.NoMemory d r w w
none_written d r w = none_sent (response_text d r) w

module _ (end : Delivered) (d : Delivery) (w w' : Option (List ℕ)) (P Q : Response → Type 0) (N M : Type 0) where
  -- of a response of which more is known
  pub writes_of : ((r : Response) → P r → Q r) → (N → M) → Writes end d P N w w' → Writes end d Q M w w'
  writes_of f g s = ⊎_elim (λ n. inl (n.0, g n.1, n.2)) (λ r. inr (r.0, f r.0 r.1, r.2)) s

-- of a response that is held whole, where there was memory for it
pub writes_whole : (end : Delivered) (d : Delivery) (w w' : Option (List ℕ)) (P : Response → Type 0) (N : Type 0) (answer : Result Response AllocError) → WholeSent end d answer w w' → ((r : Response) → answer ≡ Ok r → P r) → ((e : AllocError) → answer ≡ Err e → N) → Writes end d P N w w'
writes_whole end d w w' P N (Ok r) s f g = inr (r, f r refl, s)
writes_whole end d w w' P N (Err e) s f g = inl (s.0, g e refl, s.1)

-- the lines of a reply, written
pub lines_written : (s : Sent) (end : Delivered) → end ≡ delivered_of s → (d : Delivery) (v : ℕ) (f : ResponseFormat) (lines : List (List ℕ)) (p : Plan) → p ≡ plan.Lines v f lines → (at : Shelf) (w w' : Option (List ℕ)) → IsSent s (response_text d (lines_response f v (body_of lines))) w w'
    → Writes end d (λ r. ReplyIs p r at at) (at ≡ at) w w'
lines_written s end made d v f lines p is at w w' sent =
    let r = lines_response f v (body_of lines) in
    let first : Writes (delivered_of s) d (λ r. ReplyIs (plan.Lines v f lines) r at at) (at ≡ at) w w' = inr (r, (refl, refl), written_of s d r w w' sent) in
    let second : Writes (delivered_of s) d (λ r. ReplyIs p r at at) (at ≡ at) w w' = subst (λ (z : Plan). Writes (delivered_of s) d (λ r. ReplyIs z r at at) (at ≡ at) w w') (sym is) first in
    subst (λ (z : Delivered). Writes z d (λ r. ReplyIs p r at at) (at ≡ at) w w') (sym made) second

-- ---- objects

body_sent_as : (s : Sent) (to_head : Bool) (bytes : List ℕ) (w w' : Option (List ℕ)) → IsSent s (body_sent to_head bytes) w w' → BodySent (delivered_of s) to_head bytes w w'
body_sent_as sent.Whole to_head bytes w w' s = s
body_sent_as sent.WriteFault to_head bytes w w' s = s
body_sent_as sent.NoMemory to_head bytes w w' s = s

-- there is to be no body, and what the sink kept back was handed on
pub no_copy : (s : Sent) (name : List ℕ) (range : Range) (os : Option Objects) (to_head : Bool) (w w' : Option (List ℕ)) → HasSize range.size name os → to_head ≡ true → w' ≡ w → CopySent (delivered_of s) to_head name range os w w'
no_copy s name range os to_head w w' there is held =
    let b = whole name range.size 0 os [] (omega arith) (read_none name range.size os there) in
    let none : IsSent s (body_sent true (bytes_at range b.0)) w w' = flushed [] s w w w' (append_known-nil w) held in
    subst (λ (h : Bool). CopySent (delivered_of s) h name range os w w') (sym is) (b.0, b.1, b.2, body_sent_as s true (bytes_at range b.0) w w' none)

-- no byte of the response was written, since memory was wanting
pub no_part : (d : Delivery) (st : Status) (name : List ℕ) (range : Range) (os : Option Objects) → HasSize range.size name os → (w : Option (List ℕ)) → PartSent delivered.NoMemory d st name range os w w
no_part d st name range os there w =
    let b = whole name range.size 0 os [] (omega arith) (read_none name range.size os there) in
    (b.0, b.1, b.2, none_written d (bytes_response st (bytes_at range b.0)) w)

module _ (name : List ℕ) (range : Range) (within : IsRange range) (d : Delivery) (st : Status) (head : List ℕ) (is : head ≡ response_head d st content.Bytes (range.last + 1 - range.first)) (os : Option Objects) where
  -- the response of an object's bytes
  abbrev of_bytes : List ℕ → Response
  of_bytes bytes = bytes_response st (bytes_at range bytes)

  long : (bytes : List ℕ) → length bytes ≡ range.size → range.last + 1 - range.first ≡ length (bytes_at range bytes)
  long bytes e = sym (range_length range bytes within e)

  -- the bytes were written behind the head
  pub copy_written : (end : Delivered) (old mid new : Option (List ℕ)) → mid ≡ append_known old head → CopySent end d.to_head name range os mid new → PartSent end d st name range os old new
  copy_written delivered.Whole old mid new first c = (c.0, c.1, c.2, response_sent d (of_bytes c.0) head _ (long c.0 c.1) is sent.Whole old mid new first c.3)
  copy_written delivered.WriteFault old mid new first c = (c.0, c.1, c.2, response_sent d (of_bytes c.0) head _ (long c.0 c.1) is sent.WriteFault old mid new first c.3)
  copy_written delivered.NoMemory old mid new first c = (c.0, c.1, c.2, response_sent d (of_bytes c.0) head _ (long c.0 c.1) is sent.NoMemory old mid new first c.3)
  copy_written (delivered.Cut n) old mid new first c =
      let at : head ≡ response_head d st content.Bytes (length (bytes_at range c.0)) = head_is d (of_bytes c.0) head _ (long c.0 c.1) is in (
        c.0,
        c.1,
        c.2,
        (
          c.3.0,
          c.3.1,
          c.3.2,
          c.3.3,
          c.3.4 ∙ ap (λ (z : Option (List ℕ)). append_known z c.3.0) first ∙ append_known-append old head c.3.0 ∙ ap (λ (z : List ℕ). append_known old (z ++ c.3.0)) at,
        ),
      )

  -- no more than a part of the head was written
  pub head_written : (s : Sent) → HasSize range.size name os → (old new : Option (List ℕ)) → IsInPart head old new
      → PartSent delivered.WriteFault d st name range os old new × PartSent delivered.NoMemory d st name range os old new
  head_written s there old new part =
      let w = whole name range.size 0 os [] (omega arith) (read_none name range.size os there) in
      let p = head_in_part d (of_bytes w.0) head _ (long w.0 w.1) is old new part in ((w.0, w.1, w.2, p), (w.0, w.1, w.2, p))

all_bytes : (range : Range) (bytes : List ℕ) → range.first ≡ 0 → range.last + 1 ≡ length bytes → bytes_at range bytes ≡ bytes
all_bytes range bytes first end =
    let n : range.last + 1 - range.first ≡ length bytes = omega (arith, first, end) in
    ap (λ (k : ℕ). take k (drop range.first bytes)) n ∙ ap (λ (k : ℕ). take (length bytes) (drop k bytes)) first ∙ take-length bytes

-- what is sent of an object is what is picked of it
module _ (end : Delivered) (d : Delivery) (name : List ℕ) (span : Option Span) (size : ℕ) (os : Option Objects) (old new : Option (List ℕ)) where
  found_as : (p : Picked) → pick span size ≡ p → (bytes : List ℕ) → length bytes ≡ size → IsObject name os bytes → IsWritten end d (picked_response p bytes) old new → FileSent end d name span os old new
  found_as p is bytes long object w =
      (bytes, object, subst (λ (q : Picked). IsWritten end d (picked_response q bytes) old new) (sym (ap (pick span) long ∙ is)) w)

  -- the range from the first byte to the last has all bytes
  pub all_found : (range : Range) → pick span size ≡ picked.Whole → range.first ≡ 0 → range.last + 1 ≡ size → range.size ≡ size → PartSent end d (status.Ok None) name range os old new → FileSent end d name span os old new
  all_found range is first last of_size p =
      let long : length p.0 ≡ size = p.1 ∙ of_size in
      let all : bytes_at range p.0 ≡ p.0 = all_bytes range p.0 first (last ∙ sym long) in
      found_as picked.Whole is p.0 long p.2 (subst (λ (bytes : List ℕ). IsWritten end d (bytes_response (status.Ok None) bytes) old new) all p.3)

  -- an empty object has no byte
  pub empty_found : pick span size ≡ picked.Whole → size ≡ 0 → HasSize size name os → IsWritten end d (file_response []) old new → FileSent end d name span os old new
  empty_found is zero there w =
      let b = whole name size 0 os [] (omega arith) (read_none name size os there) in
      found_as picked.Whole is b.0 b.1 b.2 (subst (λ (bytes : List ℕ). IsWritten end d (file_response bytes) old new) (sym (nothing b.0 (b.1 ∙ zero))) w)

  pub part_found : (range : Range) → pick span size ≡ picked.Part range → range.size ≡ size → PartSent end d (status.PartialContent range) name range os old new → FileSent end d name span os old new
  part_found range is of_size p = found_as (picked.Part range) is p.0 (p.1 ∙ of_size) p.2 p.3

  pub out_found : pick span size ≡ picked.Out → HasSize size name os → IsWritten end d (out_response size) old new → FileSent end d name span os old new
  out_found is there w =
      let b = whole name size 0 os [] (omega arith) (read_none name size os there) in
      found_as picked.Out is b.0 b.1 b.2 (subst (λ (n : ℕ). IsWritten end d (out_response n) old new) (sym b.1) w)

-- the response to a request for an object, by what a store told that was only looked at
module _ (end : Delivered) (d : Delivery) (name : List ℕ) (span : Option Span) (old new : Shelf) (w w' : Option (List ℕ)) (looks : OnlyLooks old new) where
  pub file_writes : FileSent end d name span new.objects w w' → Writes end d (λ r. ObjectIs name span r old new) (new ≡ old) w w'
  file_writes s = inr (object_response span s.0, (looks, inl (s.0, refl, s.1)), s.2)

  pub gone_writes : Lacks name new.objects → IsWritten end d (refusal_response (plain refusal.FileGone)) w w' → Writes end d (λ r. ObjectIs name span r old new) (new ≡ old) w w'
  gone_writes lacks s = inr (refusal_response (plain refusal.FileGone), (looks, inr (inl (refl, lacks))), s)

  pub failed_writes : Rose old.faults new.faults → IsWritten end d (refusal_response (plain refusal.StoreFault)) w w' → Writes end d (λ r. ObjectIs name span r old new) (new ≡ old) w w'
  failed_writes rose s = inr (refusal_response (plain refusal.StoreFault), (looks, inr (inr (refl, rose))), s)

-- the same of the reply that it is
pub file_reply : (end : Delivered) (d : Delivery) (name : List ℕ) (span : Option Span) (p : Plan) → p ≡ plan.File name span → (old new : Shelf) (w w' : Option (List ℕ)) → Writes end d (λ r. ObjectIs name span r old new) (new ≡ old) w w'
    → Writes end d (λ r. ReplyIs p r old new) (new ≡ old) w w'
file_reply end d name span p is old new w w' s = subst (λ (z : Plan). Writes end d (λ r. ReplyIs z r old new) (new ≡ old) w w') (sym is) s

-- ---- the range of all bytes

module _ (size last : ℕ) (end : last ≡ size - 1) where
  abbrev whole_range : Range
  whole_range = record { first = 0; last = last; size = size }

  all_by : (range : Range) (t : Bool) → (nat_le 0 last && nat_lt last size) ≡ t → cond t (Some whole_range) None ≡ Some range → (range.first ≡ 0) × (range.last + 1 ≡ size) × (range.size ≡ size)
  all_by range true is e =
      let same : whole_range ≡ range = same_range whole_range range e in
      let lt : last < size = grind (arith, nat_tests, is) in
      (sym (ap (λ (x : Range). x.first) same), sym (ap (λ (x : Range). x.last + 1) same) ∙ omega (arith, end, lt), sym (ap (λ (x : Range). x.size) same))
    where
      same_range : (x y : Range) → Some x ≡ Some y → x ≡ y
      same_range x y e = cc
  all_by range false is e = absurd cc

  pub all_range : (range : Range) → cond (nat_le 0 last && nat_lt last size) (Some whole_range) None ≡ Some range → (range.first ≡ 0) × (range.last + 1 ≡ size) × (range.size ≡ size)
  all_range range e = all_by range (nat_le 0 last && nat_lt last size) refl e

  none_by : (t : Bool) → (nat_le 0 last && nat_lt last size) ≡ t → cond t (Some whole_range) None ≡ None → size ≡ 0
  none_by true is e = absurd cc
  none_by false is e = grind (arith, nat_tests, is, end)

  pub no_range : cond (nat_le 0 last && nat_lt last size) (Some whole_range) None ≡ None → size ≡ 0
  no_range e = none_by (nat_le 0 last && nat_lt last size) refl e

-- the reply of an answer, with a token of where the next page begins
pub answer_written : (keys : ReplyKeys) (f : ResponseFormat) (end : Delivered) (d : Delivery) (p : Plan) (a : Answer) (before after : Shelf) (w w' : Option (List ℕ)) → p ≡ reply_of keys f a → NextIsSpelt keys a
    → Writes end d (λ r. ReplyIs p r before after) (after ≡ before) w w' → Writes end d (λ r. ReplyIs (reply_of keys f a) r before after × NextIsSpelt keys a) (after ≡ before) w w'
answer_written keys f end d p a before after w w' is spelt (inl none) = inl none
answer_written keys f end d p a before after w w' is spelt (inr (r, reply, written)) = inr (r, (subst (λ (z : Plan). ReplyIs z r before after) is reply, spelt), written)
