-- A chunk, line and content, and what stands behind it.
use Rattle.std.proofs.Common.{◌≡◌, ℕ, ◌-◌, ◌<◌, ◌≤◌, inl, inr, eqb, List, [], ◌∷◌, ◌++◌, length, take, drop, Option, Some, Result, Ok, Err, refl, sym, ap, ◌∙◌, subst, arith, append_assoc, length-append}
use Rattle.std.specs.Bool.{MatchBool}
use Rattle.std.proofs.lemmas.Bool.{lt-ltb, le-ltb, eq-eqb, ne_eqb}
use Rattle.std.proofs.Math.Seq.{take-append_seam}
use Rattle.httparse.specs.Grammar.{ChunkLine, print_chunk_line, chunk_size}
use Rattle.http_message.specs.Bodies.{BodyReading, whole, unended, refused, behind, content_stop, Chunk, IsChunk, print_chunk, StopsBehindLine, Stops, ReadsTrailers, ReadsChunked}
use Rattle.http_message.specs.Lines.{IsLineAt, IsOpenLine, IsBadLine}
use Rattle.http_message.specs.declared.refusal.Flaw.TheVariants.{BadMessage, BodyTooLarge}
use Rattle.http_message.proofs.Growth.{line-append, bad-append}
use Rattle.http_wire.specs.Bodies.{IsContent, IsNextChunk, PartFound, StopsContent, IsChunking}
use Rattle.http_wire.specs.Parts.{IsLineFound}
use Rattle.http_wire.specs.Streams.{Buffer, Draws, Drew}
use Rattle.http_wire.specs.declared.chunk.Part.{Part}
use Rattle.http_wire.specs.declared.chunk.Part.TheVariants as part
use Rattle.http_wire.specs.declared.inbox.Halt.{Halt}
use Rattle.http_wire.proofs.Streams.{draws_then}

-- ---- behind a line

stops_by : (room : ℕ) (xs : List ℕ) (l : ChunkLine) (rest : List ℕ) (size : ℕ) (reading : BodyReading) → IsLineAt xs l rest → size ≡ chunk_size l → StopsBehindLine room size rest reading → Stops room xs reading
stops_by room xs l rest size reading at is behind = inr (inr (l, rest, at, subst (λ n. StopsBehindLine room n rest reading) is behind))

behind_large : (room size : ℕ) (rest : List ℕ) → room < size → StopsBehindLine room size rest (refused BodyTooLarge)
behind_large room size rest over =
    subst (λ b. MatchBool b (refused BodyTooLarge ≡ refused BodyTooLarge) (MatchBool (eqb size 0) (ReadsTrailers rest (refused BodyTooLarge)) (content_stop size rest ≡ Some (refused BodyTooLarge)))) (sym (lt-ltb room size over)) refl

behind_last : (room size : ℕ) (rest : List ℕ) (reading : BodyReading) → size ≡ 0 → ReadsTrailers rest reading → StopsBehindLine room size rest reading
behind_last room size rest reading none reads =
    subst (λ b. MatchBool b (reading ≡ refused BodyTooLarge) (MatchBool (eqb size 0) (ReadsTrailers rest reading) (content_stop size rest ≡ Some reading))) (sym (le-ltb room size (omega arith)))
    (subst (λ b. MatchBool b (ReadsTrailers rest reading) (content_stop size rest ≡ Some reading)) (sym (eq-eqb size 0 none)) reads)

behind_content : (room size : ℕ) (rest : List ℕ) (reading : BodyReading) → size ≤ room → 0 < size → content_stop size rest ≡ Some reading → StopsBehindLine room size rest reading
behind_content room size rest reading fits some stops =
    subst (λ b. MatchBool b (reading ≡ refused BodyTooLarge) (MatchBool (eqb size 0) (ReadsTrailers rest reading) (content_stop size rest ≡ Some reading))) (sym (le-ltb room size fits))
    (subst (λ b. MatchBool b (ReadsTrailers rest reading) (content_stop size rest ≡ Some reading)) (sym (ne_eqb size 0 (λ e. omega (arith, e, some)))) stops)

pub line_fits : (u : List ℕ) (len size : ℕ) (l : ChunkLine) → IsLineFound u len size l → len ≤ length u
line_fits u len size l found = omega (arith, found.len_is, ap length found.at.spelled, length-append (print_chunk_line l) (drop len u))

-- the text of the line
line_text : (u : List ℕ) (len size : ℕ) (l : ChunkLine) → IsLineFound u len size l → take len u ≡ print_chunk_line l
line_text u len size l found = ap (λ n. take n u) found.len_is ∙ ap (take (length (print_chunk_line l))) found.at.spelled ∙ take-append_seam (print_chunk_line l) (drop len u)

-- the line, with anything behind it
line_here : (u : List ℕ) (len size : ℕ) (l : ChunkLine) (y : List ℕ) → IsLineFound u len size l → IsLineAt (take len u ++ y) l y
line_here u len size l y found = record { valid = found.at.valid; short = found.at.short; spelled = ap (λ x. x ++ y) (line_text u len size l found) }

pub line_open : (room : ℕ) (y : List ℕ) → IsOpenLine y → ReadsChunked room y unended
line_open room y is = ([], inr (inl (is, refl)))

pub line_bad : (room : ℕ) (u ys : List ℕ) → IsBadLine u → ReadsChunked room (u ++ ys) (refused BadMessage)
line_bad room u ys bad = ([], inl (bad-append u ys bad, refl))

pub line_large : (room : ℕ) (u ys : List ℕ) (len size : ℕ) (l : ChunkLine) → IsLineFound u len size l → room < size → ReadsChunked room (u ++ ys) (refused BodyTooLarge)
line_large room u ys len size l found over =
    let at = line-append u ys l (drop len u) found.at in
    ([], stops_by room (u ++ ys) l (drop len u ++ ys) size (refused BodyTooLarge) at found.size_is (behind_large room size (drop len u ++ ys) over))

pub behind_line_trailers : (room : ℕ) (u : List ℕ) (len size : ℕ) (l : ChunkLine) → IsLineFound u len size l → size ≡ 0 → (y : List ℕ) (reading : BodyReading) → ReadsTrailers y reading → ReadsChunked room (take len u ++ y) reading
behind_line_trailers room u len size l found none y reading reads = ([], stops_by room (take len u ++ y) l y size reading (line_here u len size l y found) found.size_is (behind_last room size y reading none reads))

pub behind_line_content : (room : ℕ) (u : List ℕ) (len size : ℕ) (l : ChunkLine) → IsLineFound u len size l → size ≤ room → 0 < size → (y : List ℕ) (reading : BodyReading) → StopsContent size y reading → ReadsChunked room (take len u ++ y) reading
behind_line_content room u len size l found fits some y reading stops = ([], stops_by room (take len u ++ y) l y size reading (line_here u len size l y found) found.size_is (behind_content room size y reading fits some stops))

pub line_chunk : (room : ℕ) (u : List ℕ) (len size : ℕ) (l : ChunkLine) (body body_new : List ℕ) → IsLineFound u len size l → size ≤ room → 0 < size → (w : List ℕ) → IsContent size body body_new w → IsNextChunk room body body_new (take len u ++ w)
line_chunk room u len size l body body_new found fits some w is =
    let content = is.0 in (
      record { line = l; content = content },
      record { valid = found.at.valid; short = found.at.short; size = sym found.size_is ∙ sym is.1; some = omega (arith, is.1, some) },
      omega (arith, is.1, fits),
      ap (λ x. x ++ w) (line_text u len size l found) ∙ ap (λ x. print_chunk_line l ++ x) is.2,
      is.3,
    )

-- ---- one part behind bytes that were used

pub part_behind : (line rest : List ℕ) (left : Option (List ℕ)) (G K : List ℕ → Type 0) (R T : List ℕ → BodyReading → Type 0) → ((w : List ℕ) → G w → K (line ++ w))
    → ((y : List ℕ) (reading : BodyReading) → R y reading → T (line ++ y) reading) → (w : List ℕ) (r : Result Part Halt) → PartFound G R w rest left r → PartFound K T (line ++ w) rest left r
part_behind line rest left G K R T goes lift w (Ok part.More) found = goes w found
part_behind line rest left G K R T goes lift w (Ok part.Whole) found = λ ys. subst (λ s. T s (whole [] ys)) (sym (append_assoc line w ys)) (lift (w ++ ys) (whole [] ys) (found ys))
part_behind line rest left G K R T goes lift w (Ok part.Ended) found = (found.0, subst (λ s. T s unended) (sym (append_assoc line w rest)) (lift (w ++ rest) unended found.1))
part_behind line rest left G K R T goes lift w (Ok (part.Refused flaw)) found = λ ys. subst (λ s. T s (refused flaw)) (sym (append_assoc line w (rest ++ ys))) (lift (w ++ (rest ++ ys)) (refused flaw) (found ys))
part_behind line rest left G K R T goes lift w (Err e) found = tt

pub drew_behind : {S : Type 0} (left : S → Option (List ℕ)) (a b c : Buffer) (s t v : S) (line : List ℕ) (m : List (List ℕ)) (G K : List ℕ → Type 0) (R T : List ℕ → BodyReading → Type 0) (r : Result Part Halt)
    → Draws left (λ x. T x unended) a b s t m line → ((w : List ℕ) → G w → K (line ++ w)) → ((y : List ℕ) (reading : BodyReading) → R y reading → T (line ++ y) reading)
    → Drew left (λ x. R x unended) b c t v (λ used. PartFound G R used c.0 (left v) r) → Drew left (λ x. T x unended) a c s v (λ used. PartFound K T used c.0 (left v) r)
drew_behind left a b c s t v line m G K R T r first goes lift second = (
  m ++ second.0,
  line ++ second.1,
  draws_then left (λ x. T x unended) (λ x. R x unended) a b c s t v m second.0 line second.1 first (λ y short. lift y unended short) second.2,
  part_behind line c.0 (left v) G K R T goes lift second.1 r second.3,
)

-- ---- chunks, one behind the other

behind_none : (reading : BodyReading) → behind [] reading ≡ reading
behind_none (whole content rest) = refl
behind_none unended = refl
behind_none (refused flaw) = refl

behind_both : (a b : List ℕ) (reading : BodyReading) → behind a (behind b reading) ≡ behind (a ++ b) reading
behind_both a b (whole content rest) = ap (λ x. whole x rest) (sym (append_assoc a b content))
behind_both a b unended = refl
behind_both a b (refused flaw) = refl

pub chunking_none : (most : ℕ) (content : List ℕ) → content ≡ [] → IsChunking most content []
chunking_none most content none =
    record {
      fits = omega (arith, ap length none);
      goes = λ ys reading reads.
          let room : most - length content ≡ most = omega (arith, ap length none) in
          subst (λ r. ReadsChunked most ys r) (sym (ap (λ c. behind c reading) none ∙ behind_none reading)) (subst (λ n. ReadsChunked n ys reading) room reads);
    }

one_chunk : (room : ℕ) (c : Chunk) (ys : List ℕ) (reading : BodyReading) → IsChunk c → length c.content ≤ room → ReadsChunked (room - length c.content) ys reading → ReadsChunked room (print_chunk c ++ ys) (behind c.content reading)
one_chunk room c ys reading is fits reads = (c ∷ reads.0, (is, fits, ys, refl, reading, reads.1, refl))

pub chunking_more : (most : ℕ) (content content_new used w : List ℕ) → IsChunking most content used → IsNextChunk (most - length content) content content_new w → (IsChunking most content_new (used ++ w)) × (length content < length content_new)
chunking_more most content content_new used w first next =
    let c = next.0 in
    let sized = length-append content c.content in
    let grown = next.4 in (
      record {
        fits = omega (arith, ap length grown, sized, first.fits, next.2);
        goes = λ ys reading reads.
            let room : most - length content_new ≡ most - length content - length c.content = omega (arith, ap length grown, sized) in
            let one = one_chunk (most - length content) c ys reading next.1 next.2 (subst (λ n. ReadsChunked n ys reading) room reads) in
            let all = first.goes (print_chunk c ++ ys) (behind c.content reading) one in
            let text : used ++ (print_chunk c ++ ys) ≡ (used ++ w) ++ ys = ap (λ x. used ++ (x ++ ys)) (sym next.3) ∙ sym (append_assoc used w ys) in
            subst (λ r. ReadsChunked most ((used ++ w) ++ ys) r) (behind_both content c.content reading ∙ ap (λ x. behind x reading) (sym grown))
            (subst (λ s. ReadsChunked most s (behind content (behind c.content reading))) text all);
      },
      omega (arith, ap length grown, sized, next.1.some),
    )
