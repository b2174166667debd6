-- What reading a head of the grammar IsText finds.
use Rattle.std.proofs.Common.{◌≡◌, ℕ, ◌≤◌, inl, inr, Bool, true, false, cond, eqb, List, [], ◌++◌, length, take, drop, Option, Some, None, Ok, refl, sym, ap, ◌∙◌, subst, arith, append_assoc}
use Rattle.std.proofs.lemmas.Bool.{lt-leb}
use Rattle.std.proofs.lemmas.List.{append-nil, take-append-le, take-append-drop, drop-append-le, length-take-le, length-append}
use Rattle.std.proofs.Math.Seq.{take-append_seam}
use Rattle.http_message.specs.Ends.{blank_len}
use Rattle.http_message.specs.HeadReadings.{HeadReading, headed, nothing, cut, faulty, headless, ReadsHead, ReadsHeadText}
use Rattle.http_message.specs.declared.refusal.Flaw.TheVariants.{HeadTooLarge}
use Rattle.http_message.proofs.WholeHeads.{headed_whole, whole_reads}
use Rattle.http_wire.specs.Heads.{TellsStreamEnd, IsHeadOpen, EndsAt, TellsText, HeadFound, IsHeadShort, IsCounted}
use Rattle.http_wire.specs.declared.head.HeadRead.{HeadRead}
use Rattle.http_wire.specs.declared.head.HeadRead.TheVariants as read
use Rattle.http_wire.specs.declared.inbox.Halt.{Halt}
use Rattle.http_wire.proofs.HeadEnds.{headless_long, headless_blank, headless_cut}

pub head_short : {H : Type 0} (IsText : List ℕ → H → Type 0) (most : ℕ) (y : List ℕ) → IsHeadOpen most y → IsHeadShort (ReadsHead IsText most) y
head_short {H} IsText most y is = by_blank (eqb (blank_len y) (length y)) refl
  where
    base : headless {H = H} most y ≡ cond (eqb (blank_len y) (length y)) nothing cut
    base = ap (λ b. cond b (faulty HeadTooLarge) (cond (eqb (blank_len y) (length y)) nothing cut)) (lt-leb most (length y) is.short)

    by_blank : (b : Bool) → eqb (blank_len y) (length y) ≡ b → IsHeadShort (ReadsHead IsText most) y
    by_blank true e = inl (None, is.none, sym (base ∙ ap (λ b. cond b nothing cut) e))
    by_blank false e = inr (None, is.none, sym (base ∙ ap (λ b. cond b nothing cut) e))

pub nothing_read : {H : Type 0} (IsText : List ℕ → H → Type 0) (most : ℕ) (y : List ℕ) → IsHeadOpen most y → blank_len y ≡ length y → ReadsHead IsText most y nothing
nothing_read IsText most y is blank = (None, is.none, sym (headless_blank most y is.short blank))

pub cut_read : {H : Type 0} (IsText : List ℕ → H → Type 0) (most : ℕ) (y : List ℕ) → IsHeadOpen most y → ¬ (blank_len y ≡ length y) → ReadsHead IsText most y cut
cut_read IsText most y is text = (None, is.none, sym (headless_cut most y is.short text))

pub none_read : {H : Type 0} (IsText : List ℕ → H → Type 0) (most : ℕ) (u ys : List ℕ) → most ≤ length u → ((more : List ℕ) → TellsStreamEnd most (u ++ more) None) → ReadsHead IsText most (u ++ ys) (faulty HeadTooLarge)
none_read IsText most u ys long none = (None, none ys, sym (headless_long most (u ++ ys) (omega (arith, long, length-append u ys))))

text_read : {H : Type 0} (IsText : List ℕ → H → Type 0) (most : ℕ) (u more : List ℕ) (end : ℕ) (reading : HeadReading H) → EndsAt most u end → ReadsHeadText IsText (take end u) (drop end u ++ more) reading → ReadsHead IsText most (u ++ more) reading
text_read IsText most u more end reading at reads =
    let front : take end u ≡ take end (u ++ more) = sym (take-append-le end u more at.within) in
    let behind : drop end u ++ more ≡ drop end (u ++ more) = sym (drop-append-le end u more at.within) in
    (Some end, at.found more, subst (λ r. ReadsHeadText IsText (take end (u ++ more)) r reading) behind (subst (λ t. ReadsHeadText IsText t (drop end u ++ more) reading) front reads))

whole_read : {H : Type 0} (IsText : List ℕ → H → Type 0) (most : ℕ) (u ys : List ℕ) (end : ℕ) (head : H) → EndsAt most u end → ((rest : List ℕ) → ReadsHeadText IsText (take end u) rest (headed head rest)) → ReadsHead IsText most (take end u ++ ys) (headed head ys)
whole_read IsText most u ys end head at tells =
    let here : ReadsHead IsText most (u ++ []) (headed head (drop end u ++ [])) = text_read IsText most u [] end (headed head (drop end u ++ [])) at (tells (drop end u ++ [])) in
    let w = headed_whole IsText most (u ++ []) head (drop end u ++ []) here in
    let spelled : u ≡ w.0 ++ drop end u = sym (append-nil u) ∙ w.2 ∙ ap (λ x. w.0 ++ x) (append-nil (drop end u)) in
    let split = sym (take-append-drop end u) in
    let sized : length w.0 ≡ end = omega (arith, ap length spelled, length-append w.0 (drop end u), ap length split, length-append (take end u) (drop end u), length-take-le end u at.within) in
    let text : take end u ≡ w.0 = ap (λ n. take n u) (sym sized) ∙ ap (take (length w.0)) spelled ∙ take-append_seam w.0 (drop end u) in
    subst (λ t. ReadsHead IsText most (t ++ ys) (headed head ys)) (sym text) (whole_reads IsText most w.0 ys head w.1 w.3)

-- the text was used
pub text_found : {H : Type 0} (IsText : List ℕ → H → Type 0) (most : ℕ) (u rest : List ℕ) (left : Option (List ℕ)) (end : ℕ) (r : HeadRead H) → EndsAt most u end → rest ≡ drop end u → TellsText IsText (length (take end u)) (take end u) r
    → HeadFound {E = Halt} (ReadsHead IsText most) (take end u) rest left (Ok r) × IsCounted {E = Halt} most (take end u) (Ok r)
text_found IsText most u rest left end (read.Whole head len) at behind tells =
    let sized = length-take-le end u at.within in
    ((λ ys. whole_read IsText most u ys end head at tells.1), (tells.0, omega (arith, tells.0, sized, at.some), omega (arith, tells.0, sized, at.fits)))
text_found IsText most u rest left end (read.Refused flaw) at behind tells = (
  (λ ys.
      let split : take end u ++ (rest ++ ys) ≡ u ++ ys = sym (append_assoc (take end u) rest ys) ∙ ap (λ x. x ++ ys) (ap (λ x. take end u ++ x) behind ∙ take-append-drop end u) in
      subst (λ s. ReadsHead IsText most s (faulty flaw)) (sym split) (text_read IsText most u ys end (faulty flaw) at (tells (drop end u ++ ys)))),
  tt,
)
text_found IsText most u rest left end read.Nothing at behind tells = absurd tells
text_found IsText most u rest left end read.Cut at behind tells = absurd tells
