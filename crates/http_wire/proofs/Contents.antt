-- What stands behind the line of a chunk: its content, CR LF, or what stops it.
use Rattle.std.proofs.Common.{◌≡◌, ◌≢◌, ℕ, ◌+◌, ◌<◌, ◌≤◌, Bool, true, false, not, cond, leb, eqb, List, [], ◌∷◌, ◌++◌, length, take, drop, get_or, Option, Some, None, Result, Ok, Err, refl, sym, ap, ◌∙◌, arith, append_assoc, length-append, length-take-le, take-add}
use Rattle.std.proofs.lemmas.Bool.{le-leb, lt-leb, eq-eqb, ne_eqb}
use Rattle.std.proofs.lemmas.Bool.Decides.{nat_tests}
use Rattle.std.proofs.lemmas.List.{get_or-append-add, get_or_append_left, length-take, length-drop}
use Rattle.httparse.specs.Ascii.{crlf_bytes}
use Rattle.http_message.specs.Bodies.{BodyReading, unended, refused, content_stop}
use Rattle.http_message.specs.declared.refusal.Flaw.TheVariants.{BadMessage}
use Rattle.http_wire.specs.Bodies.{StopsContent, IsContent, PartFound}
use Rattle.http_wire.specs.Streams.{Buffer, Draws, Drew}
use Rattle.http_wire.specs.declared.chunk.Part.{Part}
use Rattle.http_wire.specs.declared.chunk.Part.TheVariants as part
use Rattle.http_wire.specs.declared.inbox.Halt.{Halt}
use Rattle.http_wire.proofs.Streams.{draws_then, draws_weaken}

abbrev StopBy : Bool → ℕ → Bool → ℕ → Option BodyReading
StopBy a x b y = cond a (Some unended) (cond (not (eqb x 13)) (Some (refused BadMessage)) (cond b (Some unended) (cond (not (eqb y 10)) (Some (refused BadMessage)) None)))

-- content that isn't whole
pub stop_short : (size : ℕ) (stream : List ℕ) → length stream ≤ size → content_stop size stream ≡ Some unended
stop_short size stream short = rw (le-leb (length stream) size short) refl

-- no CR behind the content
pub stop_no_cr : (stream : List ℕ) → 0 < length stream → get_or stream 0 0 ≢ 13 → content_stop 0 stream ≡ Some (refused BadMessage)
stop_no_cr stream some other =
    let a : leb (length stream) 0 ≡ false = lt-leb (length stream) 0 some in
    let b : eqb (get_or stream 0 0) 13 ≡ false = ne_eqb (get_or stream 0 0) 13 other in
    rw (a, b) refl

-- a CR, and nothing behind it
pub stop_cr : (stream : List ℕ) → length stream < 2 → (0 < length stream → get_or stream 0 0 ≡ 13) → content_stop 0 stream ≡ Some unended
stop_cr [] short is = stop_short 0 [] (omega arith)
stop_cr (x ∷ xs) short is =
    let a : leb (length (x ∷ xs)) 0 ≡ false = lt-leb (length (x ∷ xs)) 0 (omega arith) in
    let b : eqb x 13 ≡ true = eq-eqb x 13 (is (omega arith)) in
    let d : leb (length (x ∷ xs)) (0 + 1) ≡ true = le-leb (length (x ∷ xs)) (0 + 1) (omega (arith, short)) in
    rw (a, b, d) refl

-- a CR, and no LF behind it
pub stop_no_lf : (stream : List ℕ) → 2 ≤ length stream → get_or stream 0 0 ≡ 13 → get_or stream 1 0 ≢ 10 → content_stop 0 stream ≡ Some (refused BadMessage)
stop_no_lf stream room cr other =
    let a : leb (length stream) 0 ≡ false = lt-leb (length stream) 0 (omega (arith, room)) in
    let b : eqb (get_or stream 0 0) 13 ≡ true = eq-eqb (get_or stream 0 0) 13 cr in
    let d : leb (length stream) (0 + 1) ≡ false = lt-leb (length stream) (0 + 1) (omega (arith, room)) in
    let e : eqb (get_or stream 1 0) 10 ≡ false = ne_eqb (get_or stream 1 0) 10 other in
    rw (a, b, d, e) refl

pub still_front : (u y more : List ℕ) → y ≡ u ++ more → 0 < length u → get_or u 0 0 ≡ 13 → get_or y 0 0 ≡ 13
still_front u y more grown some cr = ap (λ x. get_or x 0 0) grown ∙ get_or_append_left u more 0 0 some ∙ cr

-- more bytes behind those that are refused
pub no_cr_more : (u ys : List ℕ) → 0 < length u → get_or u 0 0 ≢ 13 → content_stop 0 (u ++ ys) ≡ Some (refused BadMessage)
no_cr_more u ys some other = stop_no_cr (u ++ ys) (omega (arith, length-append u ys)) (λ e. other (sym (get_or_append_left u ys 0 0 some) ∙ e))

pub no_lf_more : (u ys : List ℕ) → 2 ≤ length u → get_or u 0 0 ≡ 13 → get_or u 1 0 ≢ 10 → content_stop 0 (u ++ ys) ≡ Some (refused BadMessage)
no_lf_more u ys room cr other =
    stop_no_lf (u ++ ys) (omega (arith, length-append u ys)) (get_or_append_left u ys 0 0 (omega (arith, room)) ∙ cr) (λ e. other (sym (get_or_append_left u ys 0 1 (omega (arith, room))) ∙ e))

-- CR LF in front
pub crlf_front : (u : List ℕ) → 2 ≤ length u → get_or u 0 0 ≡ 13 → get_or u 1 0 ≡ 10 → take 2 u ≡ crlf_bytes
crlf_front [] room cr lf = absurd (omega (arith, room))
crlf_front (x ∷ []) room cr lf = absurd (omega (arith, room))
crlf_front (x ∷ y ∷ rest) room cr lf = ap (λ a. a ∷ y ∷ []) cr ∙ ap (λ b. 13 ∷ b ∷ []) lf

-- content that is there has so many bytes, and two behind them
pub content_room : (size : ℕ) (u : List ℕ) → take 2 (drop size u) ≡ crlf_bytes → size + 2 ≤ length u
content_room size u there = omega (arith, ap length there, length-take 2 (drop size u), length-drop size u)

-- content that is there, used in one step
pub content_used : (size : ℕ) (body body_new u : List ℕ) → take 2 (drop size u) ≡ crlf_bytes → body_new ≡ body ++ take size u → IsContent size body body_new (take (size + 2) u)
content_used size body body_new u there grown =
    let room = content_room size u there in
    (take size u, length-take-le size u (omega (arith, room)), take-add size 2 u ∙ ap (λ x. take size u ++ x) there, grown)

-- ---- with content in front

pub stop_behind : (size : ℕ) (content ys : List ℕ) → length content ≡ size → content_stop size (content ++ ys) ≡ content_stop 0 ys
stop_behind size content ys sized =
    let place : size ≡ length content + 0 = omega (arith, sized) in
    let next : size + 1 ≡ length content + 1 = omega (arith, sized) in
    let cr : get_or (content ++ ys) size 0 ≡ get_or ys 0 0 = ap (λ n. get_or (content ++ ys) n 0) place ∙ get_or-append-add content ys 0 0 in
    let lf : get_or (content ++ ys) (size + 1) 0 ≡ get_or ys 1 0 = ap (λ n. get_or (content ++ ys) n 0) next ∙ get_or-append-add content ys 1 0 in
    let a : leb (length (content ++ ys)) size ≡ leb (length ys) 0 = grind (arith, nat_tests, length-append content ys, sized) in
    let b : leb (length (content ++ ys)) (size + 1) ≡ leb (length ys) 1 = grind (arith, nat_tests, length-append content ys, sized) in
    rw (a, cr, b, lf) refl

abbrev pub ContentRead : {S : Type 0} → (S → Option (List ℕ)) → ℕ → (body body_new : List ℕ) → (a b : Buffer) → (s t : S) → Result Part Halt → Type 0
ContentRead left size body body_new a b s t r =
    Drew left (λ x. StopsContent size x unended) a b s t (λ used. PartFound (IsContent size body body_new) (StopsContent size) used b.0 (left t) r)

-- the end of the content, behind content of that size
pub content_ends : {S : Type 0} (left : S → Option (List ℕ)) (size : ℕ) (body body_new : List ℕ) (a b c : Buffer) (s t v : S) (r : Result Part Halt) → (m : List (List ℕ)) (content : List ℕ) → length content ≡ size
    → body_new ≡ body ++ content → Draws left (λ x. length x < size) a b s t m content
    → Drew left (λ x. StopsContent 0 x unended) b c t v (λ used. PartFound (λ u. u ≡ crlf_bytes) (StopsContent 0) used c.0 (left v) r) → (r ≡ Ok part.Whole → ⊥)
    → ContentRead left size body body_new a c s v r
content_ends left size body body_new a b c s t v r m content sized grown first second unlike =
    let w = second.1 in (
      m ++ second.0,
      content ++ w,
      draws_then left (λ x. StopsContent size x unended) (λ x. StopsContent 0 x unended) a b c s t v m second.0 content w (draws_weaken left (λ x. StopsContent size x unended) (λ x. length x < size) a b s t m content (λ y short. stop_short size y (omega (arith, short))) first)
          (λ y stops. stop_behind size content y sized ∙ stops) second.2,
      found r second.3 unlike,
    )
  where
    found : (r : Result Part Halt) → PartFound (λ u. u ≡ crlf_bytes) (StopsContent 0) second.1 c.0 (left v) r → (r ≡ Ok part.Whole → ⊥) → PartFound (IsContent size body body_new) (StopsContent size) (content ++ second.1) c.0 (left v) r
    found (Ok part.More) is unlike = (content, sized, ap (λ x. content ++ x) is, grown)
    found (Ok part.Whole) is unlike = absurd (unlike refl)
    found (Ok part.Ended) is unlike = (is.0, ap (content_stop size) (append_assoc content second.1 c.0) ∙ stop_behind size content (second.1 ++ c.0) sized ∙ is.1)
    found (Ok (part.Refused flaw)) is unlike = λ ys. ap (content_stop size) (append_assoc content second.1 (c.0 ++ ys)) ∙ stop_behind size content (second.1 ++ (c.0 ++ ys)) sized ∙ is ys
    found (Err e) is unlike = tt
