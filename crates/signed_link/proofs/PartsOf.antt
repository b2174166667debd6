-- The parts that a target is read as are those whose link it is.
use Rattle.std.proofs.Common.{◌≡◌, ℕ, ◌-◌, List, ◌++◌, length, take, drop, ltb, Bool, true, false, cond, Option, Some, None, unwrap_or, refl, sym, ap, ◌∙◌, append_assoc, arith}
use Rattle.std.specs.Prelude.{bytes_eq, codes}
use Rattle.std.proofs.lemmas.Bool.{false_from_ne_true, ltb-true}
use Rattle.std.proofs.lemmas.List.{take_at, drop_at, length-append}
use Rattle.std.proofs.lemmas.Slice.Eq.{bytes_eq-Decides}
use Rattle.hex.specs.Hex.{encode_lower}
use Rattle.hmac_core.specs.Hmac.{hmac}
use Rattle.hmac_core.proofs.Facts.{digits_are_digits, length-digits}
use Rattle.signed_link.specs.declared.parts.LinkParts.{LinkParts}
use Rattle.signed_link.specs.Laws.{LinksAreSpelt, SpellingsAreRead}
use Rattle.signed_link.specs.Link.{cut_tail, endpoint_path, link_text, tag_text, unsigned, IsLink}
use Rattle.signed_link.specs.Parts.{if_link, parts_of}
use Rattle.signed_link.specs.Reading.{parts_in}
use Rattle.signed_link.proofs.Read.{link_again, same_parts}
use Rattle.signed_link.proofs.ReadTyped.{read_typed}

link_cond : (key target : List ℕ) (b : Bool) (q p : LinkParts) → bytes_eq (link_text key endpoint_path q) target ≡ b
    → cond b (Some q) None ≡ Some p → (q ≡ p) × (bytes_eq (link_text key endpoint_path q) target ≡ true)
link_cond key target true q p is e = (same_parts q p e, is)
link_cond key target false q p is e = absurd cc

read_link : (key target : List ℕ) (o : Option LinkParts) (p : LinkParts) → parts_in endpoint_path target ≡ o → if_link key target o ≡ Some p → IsLink key endpoint_path target p
read_link key target None p is e = absurd cc
read_link key target (Some q) p is e =
    let found = link_cond key target (bytes_eq (link_text key endpoint_path q) target) q p refl e in
    let typed = read_typed endpoint_path target p (is ∙ ap (λ x. Some x) found.0) in
    let text_is : link_text key endpoint_path q ≡ target = (bytes_eq-Decides (link_text key endpoint_path q) target).0 found.1 in
    record { value = typed.0; in_range = typed.1; spelt = sym text_is ∙ ap (link_text key endpoint_path) found.0 }

pub links_are_spelt : LinksAreSpelt
links_are_spelt key target p e = read_link key target (parts_in endpoint_path target) p refl e

pub spellings_are_read : SpellingsAreRead
spellings_are_read key target p h =
    let read = link_again key endpoint_path target p h in
    let same : bytes_eq (link_text key endpoint_path p) target ≡ true = (bytes_eq-Decides (link_text key endpoint_path p) target).1 (sym h.spelt) in
    rw (read, same) refl

none_by : (key target : List ℕ) (o : Option LinkParts) → parts_of key target ≡ o → ((p : LinkParts) → IsLink key endpoint_path target p → ⊥) → None ≡ o
none_by key target None is none = refl
none_by key target (Some p) is none = absurd (none p (links_are_spelt key target p is))

pub none_is : (key target : List ℕ) → ((p : LinkParts) → IsLink key endpoint_path target p → ⊥) → None ≡ parts_of key target
none_is key target none = none_by key target (parts_of key target) refl none

-- ---- where a link is cut

regrouped : (p u t : List ℕ) → p ++ (u ++ t) ≡ (p ++ u) ++ t
regrouped p u t = sym (append_assoc p u t)

cut_is : (key target : List ℕ) (p : LinkParts) → target ≡ link_text key endpoint_path p → target ≡ (endpoint_path ++ unsigned p) ++ tag_text key (unsigned p)
cut_is key target p e = e ∙ regrouped endpoint_path (unsigned p) (tag_text key (unsigned p))

length-tag : (key u : List ℕ) → length (tag_text key u) ≡ 67
length-tag key u = omega (arith, length-digits key u)

pub tail_again : (key target front tail : List ℕ) (u : List ℕ) → tail ≡ tag_text key u → target ≡ front ++ tail
    → cut_tail target ≡ Some (front, encode_lower (hmac key u))
tail_again key target front tail u is e =
    let size : length tail ≡ 67 = ap length is ∙ length-tag key u in
    let whole : length target ≡ length (front ++ tail) = ap length e in
    let at : length front ≡ length target - 67 = omega (arith, whole, size, length-append front tail) in
    let long : ltb (length target) 67 ≡ false = false_from_ne_true _ (λ short. absurd (omega (arith, ltb-true _ _ short, whole, size, length-append front tail))) in
    let before : take (length target - 67) target ≡ front = ap (take (length target - 67)) e ∙ take_at front tail (length target - 67) at in
    let behind : drop (length target - 67) target ≡ tag_text key u = ap (drop (length target - 67)) e ∙ drop_at front tail (length target - 67) at ∙ is in
    let digits = digits_are_digits key u in
    rw (long, before, behind, digits) refl

pub link_cut : (key target : List ℕ) (p : LinkParts) → target ≡ link_text key endpoint_path p
    → cut_tail target ≡ Some (endpoint_path ++ unsigned p, encode_lower (hmac key (unsigned p)))
link_cut key target p e = tail_again key target (endpoint_path ++ unsigned p) (tag_text key (unsigned p)) (unsigned p) refl (cut_is key target p e)

pub same_two : {A B : Type 0} (a x : A) (b y : B) → ◌≡◌ {A = Option (A × B)} (Some (a, b)) (Some (x, y)) → (a ≡ x) × (b ≡ y)
same_two {A} {B} a x b y e =
    let first : (A × B) → A = λ q. q.0 in
    let second : (A × B) → B = λ q. q.1 in
    let pair : (A × B) = (a, b) in
    (ap (λ o. first (unwrap_or o pair)) e, ap (λ o. second (unwrap_or o pair)) e)

-- a target that is so joined is the link
pub link_from : (key target front digits : List ℕ) (p : LinkParts) → target ≡ front ++ (codes "&t=" ++ digits)
    → front ≡ endpoint_path ++ unsigned p → digits ≡ encode_lower (hmac key (unsigned p)) → target ≡ link_text key endpoint_path p
link_from key target front digits p e f d =
    e ∙ ap (λ x. x ++ (codes "&t=" ++ digits)) f ∙ ap (λ x. (endpoint_path ++ unsigned p) ++ (codes "&t=" ++ x)) d
    ∙ append_assoc endpoint_path (unsigned p) (tag_text key (unsigned p))
