-- Texts written one behind another.
use Rattle.std.proofs.Common.{◌≡◌, ℕ, List, [], ◌++◌, length, Option, refl, sym, ap, ◌∙◌, subst, append_assoc}
use Rattle.std.specs.Io.KnownBytes.{append_known}
use mathlib.Core.List.{IsPrefix}
use Rattle.share_serve.specs.Responses.{body_sent, response_head, response_text}
use Rattle.share_serve.specs.Sends.{IsInPart, IsSent}
use Rattle.share_serve.specs.declared.response.Delivery.{Delivery}
use Rattle.share_serve.specs.declared.response.Response.{Response}
use Rattle.share_serve.specs.declared.send.Sent.{Sent}
use Rattle.share_serve.specs.declared.send.Sent.TheVariants as sent
use Rattle.share_serve.proofs.Basics.{append_known-append, append_known-nil, prefix_self}

prefix_behind : (front xs ys : List ℕ) → IsPrefix xs ys → IsPrefix (front ++ xs) (front ++ ys)
prefix_behind front xs ys p = (p.0, append_assoc front xs p.0 ∙ ap (λ (z : List ℕ). front ++ z) p.1)

prefix_before : (xs ys more : List ℕ) → IsPrefix xs ys → IsPrefix xs (ys ++ more)
prefix_before xs ys more p = (p.0 ++ more, sym (append_assoc xs p.0 more) ∙ ap (λ (z : List ℕ). z ++ more) p.1)

pub none_sent : (text : List ℕ) (old : Option (List ℕ)) → IsInPart text old old
none_sent text old = ([], (text, refl), append_known-nil old)

-- all of a text is a part of it
pub all_sent : (text : List ℕ) (old new : Option (List ℕ)) → new ≡ append_known old text → IsInPart text old new
all_sent text old new is = (text, prefix_self text, is)

-- what is written behind a text
pub behind_part : (front text : List ℕ) (old mid new : Option (List ℕ)) → mid ≡ append_known old front → IsInPart text mid new → IsInPart (front ++ text) old new
behind_part front text old mid new first p =
    (front ++ p.0, prefix_behind front p.0 text p.1, p.2 ∙ ap (λ (z : Option (List ℕ)). append_known z p.0) first ∙ append_known-append old front p.0)

pub sent_behind : (front text : List ℕ) (r : Sent) (old mid new : Option (List ℕ)) → mid ≡ append_known old front → IsSent r text mid new → IsSent r (front ++ text) old new
sent_behind front text sent.Whole old mid new first s = s ∙ ap (λ (z : Option (List ℕ)). append_known z text) first ∙ append_known-append old front text
sent_behind front text sent.WriteFault old mid new first s = behind_part front text old mid new first s
sent_behind front text sent.NoMemory old mid new first s = behind_part front text old mid new first s

-- a part of the front is a part of the whole
pub part_before : (text more : List ℕ) (old new : Option (List ℕ)) → IsInPart text old new → IsInPart (text ++ more) old new
part_before text more old new p = (p.0, prefix_before p.0 text more p.1, p.2)

-- a flush behind a text that was written
pub flushed : (text : List ℕ) (r : Sent) (old mid new : Option (List ℕ)) → mid ≡ append_known old text → new ≡ mid → IsSent r text old new
flushed text sent.Whole old mid new first held = held ∙ first
flushed text sent.WriteFault old mid new first held = all_sent text old new (held ∙ first)
flushed text sent.NoMemory old mid new first held = all_sent text old new (held ∙ first)

-- ---- responses

module _ (d : Delivery) (r : Response) (head : List ℕ) (size : ℕ) (counts : size ≡ length r.body) (is : head ≡ response_head d r.status r.form size) where
  pub head_is : head ≡ response_head d r.status r.form (length r.body)
  head_is = is ∙ ap (λ (n : ℕ). response_head d r.status r.form n) counts

  pub response_sent : (s : Sent) (old mid new : Option (List ℕ)) → mid ≡ append_known old head → IsSent s (body_sent d.to_head r.body) mid new → IsSent s (response_text d r) old new
  unfolding response_text
  response_sent s old mid new first sent = subst (λ (z : List ℕ). IsSent s (z ++ body_sent d.to_head r.body) old new) head_is (sent_behind head (body_sent d.to_head r.body) s old mid new first sent)

  pub head_in_part : (old new : Option (List ℕ)) → IsInPart head old new → IsInPart (response_text d r) old new
  unfolding response_text
  head_in_part old new part = subst (λ (z : List ℕ). IsInPart (z ++ body_sent d.to_head r.body) old new) head_is (part_before head (body_sent d.to_head r.body) old new part)
