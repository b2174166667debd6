-- Whole bodies, by their form.
use Rattle.std.proofs.Common.{◌≡◌, ℕ, ◌-◌, ◌<◌, ◌≤◌, cond, List, [], ◌++◌, length, take, drop, Option, Some, None, Result, Ok, Err, sym, ap, ◌∙◌, subst, arith, length-append, append_assoc}
use Rattle.std.specs.Prelude.{⊤}
use Rattle.std.proofs.lemmas.Bool.{le-leb, lt-leb}
use Rattle.std.proofs.lemmas.List.{append-nil}
use Rattle.std.proofs.Math.Seq.{take-append_seam, drop-append_seam}
use Rattle.http_message.specs.Bodies.{whole, unended, refused, ReadsChunked}
use Rattle.http_message.specs.ResponseMessages.{ReadsResponseBody}
use Rattle.http_message.specs.declared.framing.Form.TheVariants as form
use Rattle.http_message.specs.declared.refusal.Flaw.TheVariants.{BodyTooLarge}
use Rattle.http_wire.specs.Bodies.{IsChunking, IsNextChunk, PartFound}
use Rattle.http_wire.specs.Streams.{Buffer, IsEnd, Draws, Drew}
use Rattle.http_wire.specs.declared.chunk.Part.{Part}
use Rattle.http_wire.specs.declared.chunk.Part.TheVariants as part
use Rattle.http_wire.specs.declared.inbox.Halt.{Halt}
use Rattle.http_wire.proofs.Chunks.{chunking_more}
use Rattle.http_wire.proofs.Streams.{draws_then}

pub sized_short : (most size : ℕ) (xs : List ℕ) → length xs < size → ReadsResponseBody most (Ok (Some (form.Length size))) xs unended
sized_short most size xs short = sym (ap (λ b. cond b (whole (take size xs) (drop size xs)) unended) (lt-leb size (length xs) short))

pub sized_whole : (most size : ℕ) (content ys : List ℕ) → length content ≡ size → ReadsResponseBody most (Ok (Some (form.Length size))) (content ++ ys) (whole content ys)
sized_whole most size content ys sized =
    let fits : size ≤ length (content ++ ys) = omega (arith, length-append content ys, sized) in
    let front : take size (content ++ ys) ≡ content = ap (λ n. take n (content ++ ys)) (sym sized) ∙ take-append_seam content ys in
    let back : drop size (content ++ ys) ≡ ys = ap (λ n. drop n (content ++ ys)) (sym sized) ∙ drop-append_seam content ys in
    sym (ap (λ b. cond b (whole (take size (content ++ ys)) (drop size (content ++ ys))) unended) (le-leb size (length (content ++ ys)) fits) ∙ ap (λ x. whole x (drop size (content ++ ys))) front ∙ ap (λ x. whole content x) back)

pub open_whole : (most : ℕ) (stream : List ℕ) → length stream ≤ most → ReadsResponseBody most (Ok None) stream (whole stream [])
open_whole most stream fits = sym (ap (λ b. cond b (whole stream []) (refused BodyTooLarge)) (le-leb (length stream) most fits))

pub open_large : (most : ℕ) (stream : List ℕ) → most < length stream → ReadsResponseBody most (Ok None) stream (refused BodyTooLarge)
open_large most stream over = sym (ap (λ b. cond b (whole stream []) (refused BodyTooLarge)) (lt-leb (length stream) most over))

-- ---- the chunks so far, and one more

abbrev pub ChunksRead : {S : Type 0} → (S → Option (List ℕ)) → ℕ → List ℕ → (a b : Buffer) → (s t : S) → Type 0
ChunksRead left most content a b s t = Drew left (λ x. ReadsChunked most x unended) a b s t (IsChunking most content)

abbrev pub ChunkRead : {S : Type 0} → (S → Option (List ℕ)) → ℕ → (content content_new : List ℕ) → (a b : Buffer) → (s t : S) → Result Part Halt → Type 0
ChunkRead left room content content_new a b s t r = Drew left (λ x. ReadsChunked room x unended) a b s t (λ used. PartFound (IsNextChunk room content content_new) (ReadsChunked room) used b.0 (left t) r)

-- what the answer to a whole body is, by that to the last part
abbrev pub LastPart : ℕ → (content used rest : List ℕ) → Option (List ℕ) → Result Part Halt → Type 0
LastPart most content used rest left (Ok part.Whole) = (ys : List ℕ) → ReadsChunked most (used ++ ys) (whole content ys)
LastPart most content used rest left (Ok part.Ended) = IsEnd left × ReadsChunked most (used ++ rest) unended
LastPart most content used rest left (Ok (part.Refused flaw)) = (ys : List ℕ) → ReadsChunked most (used ++ (rest ++ ys)) (refused flaw)
LastPart most content used rest left (Ok part.More) = ⊤
LastPart most content used rest left (Err e) = ⊤

last_part : (most room : ℕ) (content content_new u w rest : List ℕ) (left : Option (List ℕ)) (r : Result Part Halt) → room ≡ most - length content → IsChunking most content u
    → PartFound (IsNextChunk room content content_new) (ReadsChunked room) w rest left r → LastPart most content (u ++ w) rest left r
last_part most room content content_new u w rest left (Ok part.More) here is found = tt
last_part most room content content_new u w rest left (Ok part.Whole) here is found = λ ys.
    let last : ReadsChunked (most - length content) (w ++ ys) (whole [] ys) = subst (λ n. ReadsChunked n (w ++ ys) (whole [] ys)) here (found ys) in
    subst (λ c. ReadsChunked most ((u ++ w) ++ ys) (whole c ys)) (append-nil content) (subst (λ s. ReadsChunked most s (whole (content ++ []) ys)) (sym (append_assoc u w ys)) (is.goes (w ++ ys) (whole [] ys) last))
last_part most room content content_new u w rest left (Ok part.Ended) here is found =
    let last : ReadsChunked (most - length content) (w ++ rest) unended = subst (λ n. ReadsChunked n (w ++ rest) unended) here found.1 in
    (found.0, subst (λ s. ReadsChunked most s unended) (sym (append_assoc u w rest)) (is.goes (w ++ rest) unended last))
last_part most room content content_new u w rest left (Ok (part.Refused flaw)) here is found = λ ys.
    let last : ReadsChunked (most - length content) (w ++ (rest ++ ys)) (refused flaw) = subst (λ n. ReadsChunked n (w ++ (rest ++ ys)) (refused flaw)) here (found ys) in
    subst (λ s. ReadsChunked most s (refused flaw)) (sym (append_assoc u w (rest ++ ys))) (is.goes (w ++ (rest ++ ys)) (refused flaw) last)
last_part most room content content_new u w rest left (Err e) here is found = tt

both_drew : {S : Type 0} (left : S → Option (List ℕ)) (most room : ℕ) (content : List ℕ) (a b c : Buffer) (s t v : S) (m n : List (List ℕ)) (u w : List ℕ) → room ≡ most - length content → Draws left (λ x. ReadsChunked most x unended) a b s t m u
    → IsChunking most content u → Draws left (λ x. ReadsChunked room x unended) b c t v n w → Draws left (λ x. ReadsChunked most x unended) a c s v (m ++ n) (u ++ w)
both_drew left most room content a b c s t v m n u w here first is second =
    draws_then left (λ x. ReadsChunked most x unended) (λ x. ReadsChunked room x unended) a b c s t v m n u w first (λ y short. is.goes y unended (subst (λ k. ReadsChunked k y unended) here short)) second

pub chunks_end : {S : Type 0} (left : S → Option (List ℕ)) (most room : ℕ) (content content_new : List ℕ) (a b c : Buffer) (s t v : S) (r : Result Part Halt) → room ≡ most - length content → ChunksRead left most content a b s t
    → ChunkRead left room content content_new b c t v r → Drew left (λ x. ReadsChunked most x unended) a c s v (λ used. LastPart most content used c.0 (left v) r)
chunks_end left most room content content_new a b c s t v r here first second = (
  first.0 ++ second.0,
  first.1 ++ second.1,
  both_drew left most room content a b c s t v first.0 second.0 first.1 second.1 here first.2 first.3 second.2,
  last_part most room content content_new first.1 second.1 c.0 (left v) r here first.3 second.3,
)

pub chunks_more : {S : Type 0} (left : S → Option (List ℕ)) (most room : ℕ) (content content_new : List ℕ) (a b c : Buffer) (s t v : S) → room ≡ most - length content → ChunksRead left most content a b s t
    → ChunkRead left room content content_new b c t v (Ok part.More) → (ChunksRead left most content_new a c s v) × (length content < length content_new) × (length content_new ≤ most)
chunks_more left most room content content_new a b c s t v here first second =
    let next : IsNextChunk (most - length content) content content_new second.1 = subst (λ n. IsNextChunk n content content_new second.1) here second.3 in
    let more = chunking_more most content content_new first.1 second.1 first.3 next in (
      (first.0 ++ second.0, first.1 ++ second.1, both_drew left most room content a b c s t v first.0 second.0 first.1 second.1 here first.2 first.3 second.2, more.0),
      more.1,
      more.0.fits,
    )
