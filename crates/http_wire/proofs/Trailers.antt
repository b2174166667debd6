-- The trailers of a chunked body.
use Rattle.std.proofs.Common.{◌≡◌, ℕ, ◌+◌, ◌-◌, ◌≤◌, cond, List, [], ◌∷◌, ◌++◌, length, take, drop, Option, Some, None, Ok, sym, ap, ◌∙◌, subst, arith, append_assoc, length-append}
use Rattle.std.proofs.lemmas.Bool.{le-leb, lt-leb}
use Rattle.std.proofs.lemmas.List.{take-append-le, drop-append-le, take-append-drop, length-take, take_all, drop_all}
use Rattle.http_message.specs.Ends.{IsFirstEnd, HasNoEnd, TellsEnd}
use Rattle.http_message.specs.Bodies.{BodyReading, whole, unended, refused, ReadsTrailers, ReadsTrailersText}
use Rattle.http_message.specs.declared.refusal.Flaw.TheVariants.{HeadTooLarge}
use Rattle.http_message.proofs.CutFacts.{ends_empty-append}
use Rattle.http_message.proofs.Growth.{first_end-append}
use Rattle.http_wire.specs.Bodies.{TellsTrailersText, PartFound}
use Rattle.http_wire.specs.Parts.{IsTrailersOpen}
use Rattle.http_wire.specs.declared.chunk.Part.{Part}
use Rattle.http_wire.specs.declared.chunk.Part.TheVariants as part
use Rattle.http_wire.specs.declared.inbox.Halt.{Halt}
use Rattle.http_wire.proofs.HeadEnds.{take_front}

-- what is found in what was read is found with more behind it
found_in : (u more : List ℕ) (end : ℕ) → IsFirstEnd (10 ∷ take 16384 u) 1 (end + 1) → TellsEnd (10 ∷ take 16384 (u ++ more)) 1 (Some (end + 1))
found_in u more end found =
    subst (λ w. IsFirstEnd (10 ∷ w) 1 (end + 1)) (sym (take_front 16384 u more)) (first_end-append (10 ∷ take 16384 u) (take (16384 - length u) more) 1 (end + 1) found)

text_reads : (zs text rest : List ℕ) (end : ℕ) (reading : BodyReading) → TellsEnd (10 ∷ take 16384 zs) 1 (Some (end + 1)) → text ≡ take end zs → rest ≡ drop end zs → ReadsTrailersText text rest reading → ReadsTrailers zs reading
text_reads zs text rest end reading found front behind reads =
    let place : end ≡ end + 1 - 1 = omega arith in
    let moved : ReadsTrailersText (take end zs) (drop end zs) reading = subst (λ r. ReadsTrailersText (take end zs) r reading) behind (subst (λ t. ReadsTrailersText t rest reading) front reads) in
    (Some (end + 1), found, subst (λ n. ReadsTrailersText (take n zs) (drop n zs) reading) place moved)

-- the text of the trailers, and what stands behind it
front_reads : (u more : List ℕ) (end : ℕ) (reading : BodyReading) → IsFirstEnd (10 ∷ take 16384 u) 1 (end + 1) → ReadsTrailersText (take end u) (drop end u ++ more) reading → ReadsTrailers (u ++ more) reading
front_reads u more end reading found reads =
    let within : end ≤ length u = omega (arith, found.within, length-take 16384 u) in
    text_reads (u ++ more) (take end u) (drop end u ++ more) end reading (found_in u more end found) (sym (take-append-le end u more within)) (sym (drop-append-le end u more within)) reads

-- what ends within the first bytes ends there without the others
end_cut : (xs zs : List ℕ) (start end : ℕ) → IsFirstEnd (xs ++ zs) start end → end ≤ length xs → IsFirstEnd xs start end
end_cut xs zs start end found within =
    record {
      after = found.after;
      within = within;
      ends = sym (ends_empty-append xs zs end within) ∙ found.ends;
      first = λ n above below. sym (ends_empty-append xs zs n (omega (arith, within, below))) ∙ found.first n above below;
    }

-- the text alone ends where it ended
text_ends : (u : List ℕ) (end : ℕ) → IsFirstEnd (10 ∷ take 16384 u) 1 (end + 1) → (length (take end u) ≡ end) × (take 16384 (take end u) ≡ take end u) × IsFirstEnd (10 ∷ take 16384 (take end u)) 1 (end + 1)
text_ends u end found =
    let t = take end u in
    let sized : length t ≡ end = omega (arith, length-take end u, found.within, length-take 16384 u) in
    let small : end ≤ 16384 = omega (arith, found.within, length-take 16384 u) in
    let all : take 16384 t ≡ t = take_all 16384 t (omega (arith, sized, small)) in
    let split : take 16384 u ≡ t ++ take (16384 - length t) (drop end u) = ap (take 16384) (sym (take-append-drop end u)) ∙ take_front 16384 t (drop end u) ∙ ap (λ x. x ++ take (16384 - length t) (drop end u)) all in
    let cut = end_cut (10 ∷ t) (take (16384 - length t) (drop end u)) 1 (end + 1) (subst (λ x. IsFirstEnd (10 ∷ x) 1 (end + 1)) split found) (omega (arith, sized)) in
    (sized, all, subst (λ x. IsFirstEnd (10 ∷ x) 1 (end + 1)) (sym all) cut)

-- the text was used
pub trailers_found : (u rest : List ℕ) (left : Option (List ℕ)) (end : ℕ) (p : Part) → IsFirstEnd (10 ∷ take 16384 u) 1 (end + 1) → rest ≡ drop end u → TellsTrailersText (take end u) p
    → PartFound {E = Halt} (λ _. ⊥) ReadsTrailers (take end u) rest left (Ok p)
trailers_found u rest left end part.Whole found behind tells = λ ys.
    let t = take end u in
    let e = text_ends u end found in
    let front : t ≡ take end t = sym (take_all end t (omega (arith, e.0))) in
    let none : ys ≡ drop end t ++ ys = ap (λ x. x ++ ys) (sym (drop_all end t (omega (arith, e.0)))) in
    front_reads t ys end (whole [] ys) e.2 (subst (λ r. ReadsTrailersText (take end t) r (whole [] ys)) none (subst (λ x. ReadsTrailersText x ys (whole [] ys)) front (tells ys)))
trailers_found u rest left end (part.Refused flaw) found behind tells = λ ys.
    let split : take end u ++ (rest ++ ys) ≡ u ++ ys = sym (append_assoc (take end u) rest ys) ∙ ap (λ x. x ++ ys) (ap (λ x. take end u ++ x) behind ∙ take-append-drop end u) in
    subst (λ s. ReadsTrailers s (refused flaw)) (sym split) (front_reads u ys end (refused flaw) found (tells (drop end u ++ ys)))
trailers_found u rest left end part.More found behind tells = absurd tells
trailers_found u rest left end part.Ended found behind tells = absurd tells

pub trailers_long : (u ys : List ℕ) → HasNoEnd (10 ∷ take 16384 u) 1 → 16384 ≤ length u → ReadsTrailers (u ++ ys) (refused HeadTooLarge)
trailers_long u ys none long =
    let same : take 16384 u ≡ take 16384 (u ++ ys) = sym (take-append-le 16384 u ys long) in
    let enough : 16384 ≤ length (u ++ ys) = omega (arith, long, length-append u ys) in
    (None, subst (λ w. HasNoEnd (10 ∷ w) 1) same none, sym (ap (λ b. cond b (refused HeadTooLarge) unended) (le-leb 16384 (length (u ++ ys)) enough)))

pub trailers_open : (u : List ℕ) → IsTrailersOpen u → ReadsTrailers u unended
trailers_open u is =
    let same : u ≡ take 16384 u = sym (take_all 16384 u (omega (arith, is.1))) in
    (None, subst (λ w. HasNoEnd (10 ∷ w) 1) same is.0, sym (ap (λ b. cond b (refused HeadTooLarge) unended) (lt-leb 16384 (length u) is.1)))
