-- A stream has one reading.
use Rattle.std.proofs.Common.{◌≡◌, ℕ, ◌+◌, ◌-◌, ◌≤◌, ◌⊎◌, inl, inr, Bool, true, false, not, cond, leb, ltb, eqb, List, [], ◌∷◌, ◌++◌, length, take, drop, get_or, Option, Some, None, Result, Ok, Err, refl, sym, ap, ◌∙◌, subst, arith, append_assoc}
use Rattle.std.specs.Bool.{MatchBool}
use Rattle.std.proofs.lemmas.Bool.Decides.{nat_tests}
use Rattle.std.proofs.lemmas.List.{append_cancel_left, length-append}
use Rattle.std.proofs.Math.Seq.{get_or-append_seam, take-append_seam, drop-append_seam}
use Rattle.httparse.specs.Ascii.{crlf_bytes}
use Rattle.httparse.specs.Grammar.{ChunkLine, print_chunk_line, chunk_size}
use Rattle.httparse.proofs.ChunkLemmas.{chunk_line_unique}
use Rattle.httparse.proofs.GrammarLemmas.{request_unique}
use Rattle.std.proofs.lemmas.List.{append-nil}
use Rattle.http_message.specs.Ends.{line_count}
use Rattle.http_message.specs.Heads.{IsHeadText, IsTrailersText, head_of_tree}
use Rattle.http_message.specs.Lines.{IsLineAt, IsOpenLine, IsBadLine}
use Rattle.http_message.specs.Bodies.{BodyReading, whole, unended, refused, behind, ReadsTrailersTo, ReadsTrailers, Chunk, IsChunk, print_chunk, content_stop, StopsBehindLine, Stops, ReadsChunks, ReadsBody}
use Rattle.http_message.specs.Framing.{request_form}
use Rattle.http_message.specs.HeadReadings.{HeadReading, headed, nothing, cut, faulty}
use Rattle.http_message.specs.Messages.{Reading, with_head, ReadsBehindHead, Reads}
use Rattle.http_message.specs.declared.framing.Form.{Form}
use Rattle.http_message.specs.declared.framing.Form.TheVariants as form
use Rattle.http_message.specs.declared.head.Head.{Head}
use Rattle.http_message.specs.declared.refusal.Flaw.{Flaw}
use Rattle.http_message.specs.declared.refusal.Flaw.TheVariants.{BadMessage, BodyTooLarge, HeadTooLarge}
use Rattle.http_message.proofs.HeadFacts.{reads_whole}
use Rattle.http_message.proofs.HeadUnique.{end_unique, head_unique}

-- ---- trailers

either_unique : {P X : Type 0} (x y z t : X) → ((P × (x ≡ z)) ⊎ (¬ P × (x ≡ t))) → ((P × (y ≡ z)) ⊎ (¬ P × (y ≡ t))) → x ≡ y
either_unique x y z t (inl p) (inl q) = p.1 ∙ sym q.1
either_unique x y z t (inl p) (inr q) = absurd (q.0 p.0)
either_unique x y z t (inr p) (inl q) = absurd (p.0 q.0)
either_unique x y z t (inr p) (inr q) = p.1 ∙ sym q.1

trailers_text_unique : (b : Bool) (P : Type 0) (x y z t u : BodyReading) → MatchBool b (x ≡ u) ((P × (x ≡ z)) ⊎ (¬ P × (x ≡ t))) → MatchBool b (y ≡ u) ((P × (y ≡ z)) ⊎ (¬ P × (y ≡ t))) → x ≡ y
trailers_text_unique true P x y z t u p q = p ∙ sym q
trailers_text_unique false P x y z t u p q = either_unique x y z t p q

trailers_to_unique : (stream : List ℕ) (found : Option ℕ) (x y : BodyReading) → ReadsTrailersTo stream found x → ReadsTrailersTo stream found y → x ≡ y
trailers_to_unique stream None x y p q = p ∙ sym q
trailers_to_unique stream (Some end) x y p q =
    trailers_text_unique (ltb 65 (line_count (take (end - 1) stream))) (IsTrailersText (take (end - 1) stream)) x y (whole [] (drop (end - 1) stream)) (refused BadMessage) (refused HeadTooLarge) p q

trailers_unique : (stream : List ℕ) (x y : BodyReading) → ReadsTrailers stream x → ReadsTrailers stream y → x ≡ y
trailers_unique stream x y p q =
    let same = end_unique (10 ∷ take 16384 stream) 1 p.0 q.0 p.1 q.1 in
    trailers_to_unique stream q.0 x y (subst (λ f. ReadsTrailersTo stream f x) same p.2) q.2

-- ---- chunks

line_unique : (stream : List ℕ) (l k : ChunkLine) (r q : List ℕ) → IsLineAt stream l r → IsLineAt stream k q → (l ≡ k) × (r ≡ q)
line_unique stream l k r q p o = chunk_line_unique stream l k r q (p.valid, p.spelled) (o.valid, o.spelled)

not_open : (stream : List ℕ) (l : ChunkLine) (r : List ℕ) → IsLineAt stream l r → IsOpenLine stream → ⊥
not_open stream l r line open_ = open_.none l r (line.valid, line.spelled)

not_bad : (stream : List ℕ) (l : ChunkLine) (r : List ℕ) → IsLineAt stream l r → IsBadLine stream → ⊥
not_bad stream l r line (inl never) = never [] l r (line.valid, append-nil stream ∙ line.spelled)
not_bad stream l r line (inr long) = long.none l r line

open_not_bad : (stream : List ℕ) → IsOpenLine stream → IsBadLine stream → ⊥
open_not_bad stream open_ (inl never) = never open_.may.0 open_.may.1 [] open_.may.2
open_not_bad stream open_ (inr long) = omega (arith, open_.short, long.long)

some_same : (x y : BodyReading) (o : Option BodyReading) → o ≡ Some x → o ≡ Some y → x ≡ y
some_same x y o p q = cc

behind_line_unique : (b d : Bool) (T : BodyReading → Type 0) (o : Option BodyReading) (x y u : BodyReading) → ((x y : BodyReading) → T x → T y → x ≡ y)
    → MatchBool b (x ≡ u) (MatchBool d (T x) (o ≡ Some x)) → MatchBool b (y ≡ u) (MatchBool d (T y) (o ≡ Some y)) → x ≡ y
behind_line_unique true d T o x y u one p q = p ∙ sym q
behind_line_unique false true T o x y u one p q = one x y p q
behind_line_unique false false T o x y u one p q = some_same x y o p q

abbrev LineStop : ℕ → List ℕ → BodyReading → Type 0
LineStop room stream reading = (line : ChunkLine) × (rest : List ℕ) × IsLineAt stream line rest × StopsBehindLine room (chunk_size line) rest reading

lines_stop_unique : (room : ℕ) (stream : List ℕ) (x y : BodyReading) → LineStop room stream x → LineStop room stream y → x ≡ y
lines_stop_unique room stream x y p q =
    let same = line_unique stream p.0 q.0 p.1 q.1 p.2 q.2 in
    let moved : StopsBehindLine room (chunk_size q.0) q.1 x = subst (λ l. StopsBehindLine room (chunk_size l) q.1 x) same.0 (subst (λ r. StopsBehindLine room (chunk_size p.0) r x) same.1 p.3) in
    behind_line_unique (ltb room (chunk_size q.0)) (eqb (chunk_size q.0) 0) (ReadsTrailers q.1) (content_stop (chunk_size q.0) q.1) x y (refused BodyTooLarge) (trailers_unique q.1) moved q.3

stops_unique : (room : ℕ) (stream : List ℕ) (x y : BodyReading) → Stops room stream x → Stops room stream y → x ≡ y
stops_unique room stream x y (inl p) (inl q) = p.1 ∙ sym q.1
stops_unique room stream x y (inl p) (inr (inl q)) = absurd (open_not_bad stream q.0 p.0)
stops_unique room stream x y (inl p) (inr (inr q)) = absurd (not_bad stream q.0 q.1 q.2 p.0)
stops_unique room stream x y (inr (inl p)) (inl q) = absurd (open_not_bad stream p.0 q.0)
stops_unique room stream x y (inr (inl p)) (inr (inl q)) = p.1 ∙ sym q.1
stops_unique room stream x y (inr (inl p)) (inr (inr q)) = absurd (not_open stream q.0 q.1 q.2 p.0)
stops_unique room stream x y (inr (inr p)) (inl q) = absurd (not_bad stream p.0 p.1 p.2 q.0)
stops_unique room stream x y (inr (inr p)) (inr (inl q)) = absurd (not_open stream p.0 p.1 p.2 q.0)
stops_unique room stream x y (inr (inr p)) (inr (inr q)) = lines_stop_unique room stream x y p q

pub chunk_front : (c : Chunk) (tail : List ℕ) → print_chunk c ++ tail ≡ print_chunk_line c.line ++ (c.content ++ (crlf_bytes ++ tail))
chunk_front c tail = simp append_assoc

pub chunk_line_at : (c : Chunk) (stream tail : List ℕ) → IsChunk c → stream ≡ print_chunk c ++ tail → IsLineAt stream c.line (c.content ++ (crlf_bytes ++ tail))
chunk_line_at c stream tail is spelled = record { valid = is.valid; short = is.short; spelled = spelled ∙ chunk_front c tail }

-- content and CR LF don't stop
pub content_goes_on : (size : ℕ) (content tail : List ℕ) → length content ≡ size → content_stop size (content ++ (crlf_bytes ++ tail)) ≡ None
content_goes_on size content tail sized =
    let stream = content ++ (13 ∷ 10 ∷ tail) in
    let shifted : content ++ (13 ∷ 10 ∷ tail) ≡ (content ++ (13 ∷ [])) ++ (10 ∷ tail) = sym (append_assoc content (13 ∷ []) (10 ∷ tail)) in
    let more : length (content ++ (13 ∷ [])) ≡ size + 1 = length-append content (13 ∷ []) ∙ ap (λ n. n + 1) sized in
    let long : size + 2 ≤ length stream = omega (arith, length-append content (13 ∷ 10 ∷ tail), sized) in
    let cr : get_or stream size 0 ≡ 13 = rw (← sized) (get_or-append_seam content 13 (10 ∷ tail) 0) in
    let lf : get_or stream (size + 1) 0 ≡ 10 = rw (shifted, ← more) (get_or-append_seam (content ++ (13 ∷ [])) 10 tail 0) in
    by_tests (leb (length stream) size) (get_or stream size 0) (leb (length stream) (size + 1)) (get_or stream (size + 1) 0) (grind (arith, nat_tests, long)) cr (grind (arith, nat_tests, long)) lf
  where
    by_tests : (a : Bool) (x : ℕ) (b : Bool) (y : ℕ) → a ≡ false → x ≡ 13 → b ≡ false → y ≡ 10
        → cond a (Some unended) (cond (not (eqb x 13)) (Some (refused BadMessage)) (cond b (Some unended) (cond (not (eqb y 10)) (Some (refused BadMessage)) None))) ≡ None
    by_tests a x b y p q r s = rw (p, q, r, s) refl

chunk_no_stop : (room : ℕ) (c : Chunk) (stream tail : List ℕ) (x : BodyReading) → IsChunk c → length c.content ≤ room → stream ≡ print_chunk c ++ tail → Stops room stream x → ⊥
chunk_no_stop room c stream tail x is fits spelled (inl p) = not_bad stream c.line (c.content ++ (crlf_bytes ++ tail)) (chunk_line_at c stream tail is spelled) p.0
chunk_no_stop room c stream tail x is fits spelled (inr (inl p)) = not_open stream c.line (c.content ++ (crlf_bytes ++ tail)) (chunk_line_at c stream tail is spelled) p.0
chunk_no_stop room c stream tail x is fits spelled (inr (inr p)) =
    let same = line_unique stream p.0 c.line p.1 (c.content ++ (crlf_bytes ++ tail)) p.2 (chunk_line_at c stream tail is spelled) in
    let size : chunk_size p.0 ≡ length c.content = ap chunk_size same.0 ∙ is.size in
    let moved : StopsBehindLine room (length c.content) (c.content ++ (crlf_bytes ++ tail)) x =
    subst (λ n. StopsBehindLine room n (c.content ++ (crlf_bytes ++ tail)) x) size (subst (λ r. StopsBehindLine room (chunk_size p.0) r x) same.1 p.3) in
    goes (ltb room (length c.content)) (eqb (length c.content) 0) (content_stop (length c.content) (c.content ++ (crlf_bytes ++ tail))) (ReadsTrailers (c.content ++ (crlf_bytes ++ tail)) x) (x ≡ refused BodyTooLarge) (grind (arith, nat_tests, fits)) (grind (arith, nat_tests, is.some)) (content_goes_on (length c.content) c.content tail refl) moved
  where
    goes : (a b : Bool) (o : Option BodyReading) (T U : Type 0) → a ≡ false → b ≡ false → o ≡ None → MatchBool a U (MatchBool b T (o ≡ Some x)) → ⊥
    goes true b o T U p q r h = absurd cc
    goes false true o T U p q r h = absurd cc
    goes false false o T U p q r h = absurd cc

same_front : (a b p q : List ℕ) → a ++ p ≡ b ++ q → length a ≡ length b → (a ≡ b) × (p ≡ q)
same_front a b p q e sized = (
  sym (take-append_seam a p) ∙ ap (take (length a)) e ∙ ap (λ n. take n (b ++ q)) sized ∙ take-append_seam b q,
  sym (drop-append_seam a p) ∙ ap (drop (length a)) e ∙ ap (λ n. drop n (b ++ q)) sized ∙ drop-append_seam b q,
)

chunk_unique : (c d : Chunk) (stream p q : List ℕ) → IsChunk c → IsChunk d → stream ≡ print_chunk c ++ p → stream ≡ print_chunk d ++ q → (c.content ≡ d.content) × (p ≡ q)
chunk_unique c d stream p q ic id sc sd =
    let lines = line_unique stream c.line d.line (c.content ++ (crlf_bytes ++ p)) (d.content ++ (crlf_bytes ++ q)) (chunk_line_at c stream p ic sc) (chunk_line_at d stream q id sd) in
    let sized : length c.content ≡ length d.content = sym ic.size ∙ ap chunk_size lines.0 ∙ id.size in
    let parts = same_front c.content d.content (crlf_bytes ++ p) (crlf_bytes ++ q) lines.1 sized in
    (parts.0, append_cancel_left crlf_bytes p q parts.1)

chunks_unique : (room : ℕ) (cs ds : List Chunk) (stream : List ℕ) (x y : BodyReading) → ReadsChunks room cs stream x → ReadsChunks room ds stream y → x ≡ y
chunks_unique room [] [] stream x y p q = stops_unique room stream x y p q
chunks_unique room [] (d ∷ ds) stream x y p q = absurd (chunk_no_stop room d stream q.2 x q.0 q.1 q.3 p)
chunks_unique room (c ∷ cs) [] stream x y p q = absurd (chunk_no_stop room c stream p.2 y p.0 p.1 p.3 q)
chunks_unique room (c ∷ cs) (d ∷ ds) stream x y p q =
    let same = chunk_unique c d stream p.2 q.2 p.0 q.0 p.3 q.3 in
    let moved : ReadsChunks (room - length d.content) cs q.2 p.4 =
    subst (λ n. ReadsChunks (room - length n) cs q.2 p.4) same.0 (subst (λ r. ReadsChunks (room - length c.content) cs r p.4) same.1 p.5) in
    let later = chunks_unique (room - length d.content) cs ds q.2 p.4 q.4 moved q.5 in
    p.6 ∙ ap (λ b. behind c.content b) later ∙ ap (λ a. behind a q.4) same.0 ∙ sym q.6

pub body_unique : (most : ℕ) (f : Result Form Flaw) (stream : List ℕ) (x y : BodyReading) → ReadsBody most f stream x → ReadsBody most f stream y → x ≡ y
body_unique most (Err flaw) stream x y p q = p ∙ sym q
body_unique most (Ok (form.Length size)) stream x y p q = p ∙ sym q
body_unique most (Ok form.Chunked) stream x y p q = chunks_unique most p.0 q.0 stream x y p.1 q.1

-- ---- heads

head_text_unique : (text : List ℕ) (h k : Head) → IsHeadText text h → IsHeadText text k → h ≡ k
head_text_unique text h k p q =
    let same = (request_unique text p.0 q.0 [] [] (reads_whole text p.0 p.1) (reads_whole text q.0 q.1)).0 in
    p.2 ∙ ap head_of_tree same ∙ sym q.2

behind_head_unique : (most : ℕ) (head : HeadReading Head) (x y : Reading) → ReadsBehindHead most head x → ReadsBehindHead most head y → x ≡ y
behind_head_unique most (headed head rest) x y p q = p.2 ∙ ap (with_head head) (body_unique most (request_form most head) rest p.0 q.0 p.1 q.1) ∙ sym q.2
behind_head_unique most nothing x y p q = p ∙ sym q
behind_head_unique most cut x y p q = p ∙ sym q
behind_head_unique most (faulty flaw) x y p q = p ∙ sym q

pub reading_unique : (most : ℕ) (stream : List ℕ) (x y : Reading) → Reads most stream x → Reads most stream y → x ≡ y
reading_unique most stream x y p q =
    let same = head_unique IsHeadText head_text_unique 16384 stream p.0 q.0 p.1 q.1 in
    behind_head_unique most q.0 x y (subst (λ h. ReadsBehindHead most h x) same p.2) q.2
