-- A head in front of a stream, and its text.
use Rattle.std.proofs.Common.{◌≡◌, ℕ, ◌+◌, ◌-◌, ◌≤◌, ◌⊎◌, inl, inr, Bool, true, false, cond, leb, eqb, List, ◌++◌, length, take, drop, Option, Some, None, refl, sym, ap, ◌∙◌, subst, arith}
use Rattle.std.specs.Bool.{MatchBool}
use Rattle.std.proofs.lemmas.Bool.{cases_lt}
use Rattle.std.proofs.lemmas.List.{length-take, take-append-drop}
use Rattle.std.proofs.Math.Seq.{take-append-add, take-append_seam, drop-append_seam}
use Rattle.http_message.specs.Ends.{blank_len, ends_empty, IsFirstEnd, TellsEnd}
use Rattle.http_message.specs.HeadReadings.{headed, nothing, cut, faulty, has_many_lines, ReadsHeadText, ReadsHeadTo, ReadsHead, IsWholeHead}
use Rattle.http_message.specs.declared.refusal.Flaw.TheVariants.{BadMessage, HeadTooLarge}
use Rattle.http_message.proofs.CutFacts.{blank_len-append, ends_empty-append, head_end-append}
use Rattle.http_message.proofs.Growth.{blank_split, no_room}
use Rattle.http_message.proofs.HeadUnique.{clash}

by_few : {H : Type 0} (IsText : List ℕ → H → Type 0) (b : Bool) (text rest : List ℕ) (head : H) → b ≡ false → IsText text head
    → MatchBool b (headed head rest ≡ faulty HeadTooLarge) (((k : H) × IsText text k × (headed head rest ≡ headed k rest)) ⊎ (((k : H) → ¬ (IsText text k)) × (headed head rest ≡ faulty BadMessage)))
by_few IsText true text rest head few is = absurd cc
by_few IsText false text rest head few is = inl (head, is, refl)

-- a whole head is what the stream begins with, where it has at most so many bytes
pub whole_reads : {H : Type 0} (IsText : List ℕ → H → Type 0) (most : ℕ) (text rest : List ℕ) (head : H) → IsWholeHead IsText text head → length text ≤ most
    → ReadsHead IsText most (text ++ rest) (headed head rest)
whole_reads IsText most text rest head whole fits =
    let n = length text in
    let more = take (most - n) rest in
    let sum : most ≡ n + (most - n) = omega (arith, fits) in
    let front : take most (text ++ rest) ≡ text ++ more = ap (λ k. take k (text ++ rest)) sum ∙ take-append-add text rest (most - n) in
    let found : IsFirstEnd (take most (text ++ rest)) (blank_len (take most (text ++ rest))) n =
    subst (λ w. IsFirstEnd w (blank_len w) n) (sym front) (head_end-append text more n whole.ends) in
    let reads : ReadsHeadText IsText text rest (headed head rest) = by_few IsText (has_many_lines text) text rest head whole.few whole.is in
    (Some n, found, subst (λ r. ReadsHeadText IsText (take n (text ++ rest)) r (headed head rest)) (sym (drop-append_seam text rest)) (subst (λ t. ReadsHeadText IsText t rest (headed head rest)) (sym (take-append_seam text rest)) reads))

-- ---- from the stream to the text

-- the first end of a text with more bytes behind it, where it is the text's own end
first_end_front : (text more : List ℕ) → IsFirstEnd (text ++ more) (blank_len (text ++ more)) (length text) → IsFirstEnd text (blank_len text) (length text)
first_end_front text more found =
    let ends : ends_empty text (length text) ≡ true = sym (ends_empty-append text more (length text) (omega arith)) ∙ found.ends in
    let same : blank_len (text ++ more) ≡ blank_len text =
    elim (cases_lt (length text) (blank_len text + 2)) [
      | inl small ↦ absurd (clash (ends_empty text (length text)) ends (no_room text small (length text) (omega (arith, found.after, blank_split text more)) (omega arith)))
      | inr room ↦ blank_len-append text more room
    ] in
    record {
      after = omega (arith, found.after, same);
      within = omega arith;
      ends = ends;
      first = λ n above below. sym (ends_empty-append text more n (omega (arith, below))) ∙ found.first n (omega (arith, above, same)) below;
    }

not_headless : {H : Type 0} (a b : Bool) (head : H) (rest : List ℕ) → headed head rest ≡ cond a (faulty HeadTooLarge) (cond b nothing cut) → ⊥
not_headless true b head rest e = absurd cc
not_headless false true head rest e = absurd cc
not_headless false false head rest e = absurd cc

pub same_head : {H : Type 0} (h k : H) (r s : List ℕ) → headed h r ≡ headed k s → (h ≡ k) × (r ≡ s)
same_head h k r s e = (cc, cc)

read_text : {H : Type 0} (IsText : List ℕ → H → Type 0) (b : Bool) (text back rest : List ℕ) (head : H)
    → MatchBool b (headed head rest ≡ faulty HeadTooLarge) (((k : H) × IsText text k × (headed head rest ≡ headed k back)) ⊎ (((k : H) → ¬ (IsText text k)) × (headed head rest ≡ faulty BadMessage)))
    → (b ≡ false) × IsText text head × (rest ≡ back)
read_text IsText true text back rest head reads = absurd cc
read_text IsText false text back rest head (inl p) =
    let same = same_head head p.0 rest back p.2 in
    (refl, subst (λ k. IsText text k) (sym same.0) p.1, same.1)
read_text IsText false text back rest head (inr p) = absurd cc

abbrev pub WholeFront : {H : Type 0} → (List ℕ → H → Type 0) → ℕ → List ℕ → H → List ℕ → Type 0
WholeFront IsText most stream head rest = (text : List ℕ) × IsWholeHead IsText text head × (stream ≡ text ++ rest) × (length text ≤ most)

to_whole : {H : Type 0} (IsText : List ℕ → H → Type 0) (most : ℕ) (stream : List ℕ) (head : H) (rest : List ℕ) (end : ℕ)
    → IsFirstEnd (take most stream) (blank_len (take most stream)) end → ReadsHeadText IsText (take end stream) (drop end stream) (headed head rest)
    → WholeFront IsText most stream head rest
to_whole IsText most stream head rest end found reads =
    let text = take end stream in
    let w = take most stream in
    let r = read_text IsText (has_many_lines text) text (drop end stream) rest head reads in
    let long = length-take most stream in
    let sized : length text ≡ end = omega (arith, length-take end stream, found.within, long) in
    let cut_up : stream ≡ text ++ drop end stream = sym (take-append-drop end stream) in
    let sum : most ≡ length text + (most - end) = omega (arith, sized, found.within, long) in
    let front : w ≡ text ++ take (most - end) (drop end stream) =
    ap (take most) cut_up ∙ ap (λ k. take k (text ++ drop end stream)) sum ∙ take-append-add text (drop end stream) (most - end) in
    let ends = first_end_front text (take (most - end) (drop end stream)) (subst (λ k. IsFirstEnd (text ++ take (most - end) (drop end stream)) (blank_len (text ++ take (most - end) (drop end stream))) k) (sym sized) (subst (λ v. IsFirstEnd v (blank_len v) end) front found)) in
    (text, record { ends = ends; few = r.0; is = r.1 }, cut_up ∙ ap (λ s. text ++ s) (sym r.2), omega (arith, sized, found.within, long))

-- the head that a stream begins with is a whole one
pub headed_whole : {H : Type 0} (IsText : List ℕ → H → Type 0) (most : ℕ) (stream : List ℕ) (head : H) (rest : List ℕ)
    → ReadsHead IsText most stream (headed head rest) → WholeFront IsText most stream head rest
headed_whole IsText most stream head rest p = by_end p.0 p.1 p.2
  where
    by_end : (found : Option ℕ) → TellsEnd (take most stream) (blank_len (take most stream)) found → ReadsHeadTo IsText most stream found (headed head rest) → WholeFront IsText most stream head rest
    by_end None none reads = absurd (not_headless (leb most (length stream)) (eqb (blank_len stream) (length stream)) head rest reads)
    by_end (Some end) found reads = to_whole IsText most stream head rest end found reads
