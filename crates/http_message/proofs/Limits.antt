-- A body has no more bytes than it may.
use Rattle.std.proofs.Common.{◌≡◌, ℕ, ◌+◌, ◌-◌, ◌≤◌, inl, inr, Bool, true, false, not, cond, leb, ltb, eqb, List, [], ◌∷◌, ◌++◌, length, take, drop, get_or, Option, Some, None, Result, Ok, Err, refl, ap, arith, length-append}
use Rattle.std.specs.Bool.{MatchBool}
use Rattle.std.specs.Prelude.{is_some, ◌⊎◌, ◌==◌, ◌&&◌, codes, count_by}
use Rattle.httparse.specs.Grammar.{chunk_size}
use Rattle.http_message.specs.Ends.{line_count}
use Rattle.http_message.specs.Fields.{is_named, first_named, same_text}
use Rattle.http_message.specs.Heads.{IsTrailersText}
use Rattle.std.proofs.lemmas.Bool.Decides.{nat_tests}
use Rattle.std.proofs.lemmas.List.{length-take}
use Rattle.http_message.specs.Bodies.{BodyReading, whole, unended, refused, behind, ReadsTrailers, Chunk, content_stop, Stops, ReadsChunks, ReadsBody}
use Rattle.http_message.specs.Framing.{Pairs, closes, is_broken, length_in, sized, form_in, request_form}
use Rattle.http_message.specs.HeadReadings.{headed, nothing, cut, faulty}
use Rattle.http_message.specs.Messages.{request, ended, truncated, bad, with_head, ReadsMessage}
use Rattle.http_message.specs.ResponseMessages.{truncated as response_cut, bad as response_bad, ReadsResponseBody, response, with_response, ReadsResponseMessage}
use Rattle.http_message.specs.Responses.{is_bodiless, some_form, response_form}
use Rattle.http_message.specs.declared.framing.Form.{Form}
use Rattle.http_message.specs.declared.framing.Form.TheVariants as form
use Rattle.http_message.specs.declared.head.Head.{Head}
use Rattle.http_message.specs.declared.refusal.Flaw.{Flaw}
use Rattle.http_message.specs.declared.refusal.Flaw.TheVariants.{BadMessage, BodyTooLarge, HeadTooLarge, TransferCoding}
use Rattle.http_message.specs.declared.response.ResponseHead.{ResponseHead}

same_whole : (a b p q : List ℕ) → whole a p ≡ whole b q → a ≡ b
same_whole a b p q e = cc

abbrev size_of : Result Form Flaw → ℕ
size_of (Ok (form.Length size)) = size
size_of (Ok form.Chunked) = 0
size_of (Err flaw) = 0

-- ---- forms

sized_fits : (most : ℕ) (o : Option ℕ) (size : ℕ) → sized most o ≡ Ok (form.Length size) → size ≤ most
sized_fits most None size e =
    let same : 0 ≡ size = ap size_of e in
    omega (arith, same)
sized_fits most (Some n) size e = go (ltb most n) refl e
  where
    go : (b : Bool) → ltb most n ≡ b → cond b (Err BodyTooLarge) (Ok (form.Length n)) ≡ Ok (form.Length size) → size ≤ most
    go true is e = absurd cc
    go false is e =
        let same : n ≡ size = ap size_of e in
        grind (arith, nat_tests, is, same)

form_fits : (most minor : ℕ) (a b c : Bool) (o : Option ℕ) (flaw : Flaw) (size : ℕ) → cond a (Err BadMessage) (cond b (cond c (Ok form.Chunked) (Err flaw)) (sized most o)) ≡ Ok (form.Length size) → size ≤ most
form_fits most minor true b c o flaw size e = absurd cc
form_fits most minor false true true o flaw size e = absurd cc
form_fits most minor false true false o flaw size e = absurd cc
form_fits most minor false false c o flaw size e = sized_fits most o size e

in_fits : (most minor : ℕ) (fields : Pairs) (size : ℕ) → form_in most minor fields ≡ Ok (form.Length size) → size ≤ most
in_fits most minor fields size e =
    let lengths = count_by (is_named (codes "content-length")) fields in
    let codings = count_by (is_named (codes "transfer-encoding")) fields in
    let found = length_in (first_named (codes "content-length") fields) in
    form_fits most minor (is_broken minor lengths (is_some found) codings) (ltb 0 codings) (codings == 1 && same_text (first_named (codes "transfer-encoding") fields) (codes "chunked")) found TransferCoding size e

request_fits : (most : ℕ) (head : Head) (size : ℕ) → request_form most head ≡ Ok (form.Length size) → size ≤ most
request_fits most head size e = go (head.minor == 1 && not (count_by (is_named (codes "host")) head.fields == 1)) e
  where
    go : (b : Bool) → cond b (Err BadMessage) (form_in most head.minor head.fields) ≡ Ok (form.Length size) → size ≤ most
    go true e = absurd cc
    go false e = in_fits most head.minor head.fields size e

-- ---- bodies

no_whole : (content rest : List ℕ) (a b : Bool) (x y : Bool) → cond a (Some unended) (cond (not x) (Some (refused BadMessage)) (cond b (Some unended) (cond (not y) (Some (refused BadMessage)) None))) ≡ Some (whole content rest) → ⊥
no_whole content rest true b x y e = cc
no_whole content rest false b false y e = cc
no_whole content rest false true true y e = cc
no_whole content rest false false true false e = cc
no_whole content rest false false true true e = cc

trailers_empty : (stream content rest : List ℕ) → ReadsTrailers stream (whole content rest) → content ≡ []
trailers_empty stream content rest (None, found, reads) = long (leb 16384 (length stream)) reads
  where
    long : (b : Bool) → whole content rest ≡ cond b (refused HeadTooLarge) unended → content ≡ []
    long true e = absurd cc
    long false e = absurd cc
trailers_empty stream content rest (Some end, found, reads) = by_lines (ltb 65 (line_count (take (end - 1) stream))) reads
  where
    by_lines : (b : Bool) → MatchBool b (whole content rest ≡ refused HeadTooLarge) ((IsTrailersText (take (end - 1) stream) × (whole content rest ≡ whole [] (drop (end - 1) stream))) ⊎ (¬ (IsTrailersText (take (end - 1) stream)) × (whole content rest ≡ refused BadMessage))) → content ≡ []
    by_lines true e = absurd cc
    by_lines false (inl p) = same_whole content [] rest (drop (end - 1) stream) p.1
    by_lines false (inr p) = absurd (other p.1)
      where
        other : whole content rest ≡ refused BadMessage → ⊥
        other e = cc

stops_empty : (room : ℕ) (stream content rest : List ℕ) → Stops room stream (whole content rest) → content ≡ []
stops_empty room stream content rest (inl is_bad) = absurd (other is_bad.1)
  where
    other : whole content rest ≡ refused BadMessage → ⊥
    other e = cc
stops_empty room stream content rest (inr (inl open_line)) = absurd (other open_line.1)
  where
    other : whole content rest ≡ unended → ⊥
    other e = cc
stops_empty room stream content rest (inr (inr (line, tail, at, stops))) = by_size (ltb room (chunk_size line)) (eqb (chunk_size line) 0) stops
  where
    by_size : (a b : Bool) → MatchBool a (whole content rest ≡ refused BodyTooLarge) (MatchBool b (ReadsTrailers tail (whole content rest)) (content_stop (chunk_size line) tail ≡ Some (whole content rest))) → content ≡ []
    by_size true b e = absurd cc
    by_size false true reads = trailers_empty tail content rest reads
    by_size false false e = absurd (no_whole content rest (leb (length tail) (chunk_size line)) (leb (length tail) (chunk_size line + 1)) (eqb (get_or tail (chunk_size line) 0) 13) (eqb (get_or tail (chunk_size line + 1) 0) 10) e)

chunks_fit : (room : ℕ) (chunks : List Chunk) (stream content rest : List ℕ) → ReadsChunks room chunks stream (whole content rest) → length content ≤ room
chunks_fit room [] stream content rest stops = omega (arith, ap length (stops_empty room stream content rest stops))
chunks_fit room (c ∷ chunks) stream content rest (is, fits, tail, spelled, later, reads, same) = by_later (λ more last r. chunks_fit (room - length c.content) chunks tail more last r) later reads same
  where
    by_later : ((more last : List ℕ) → ReadsChunks (room - length c.content) chunks tail (whole more last) → length more ≤ room - length c.content) → (later : BodyReading) → ReadsChunks (room - length c.content) chunks tail later
        → whole content rest ≡ behind c.content later → length content ≤ room
    by_later shorter (whole more last) reads same =
        let inner = shorter more last reads in
        omega (arith, inner, fits, ap length (same_whole content (c.content ++ more) rest last same), length-append c.content more)
    by_later shorter unended reads same = absurd (other same)
      where
        other : whole content rest ≡ unended → ⊥
        other e = cc
    by_later shorter (refused flaw) reads same = absurd (other same)
      where
        other : whole content rest ≡ refused flaw → ⊥
        other e = cc

body_fits : (most : ℕ) (f : Result Form Flaw) (stream content rest : List ℕ) → ((size : ℕ) → f ≡ Ok (form.Length size) → size ≤ most) → ReadsBody most f stream (whole content rest) → length content ≤ most
body_fits most (Err flaw) stream content rest bound reads = absurd (other reads)
  where
    other : whole content rest ≡ refused flaw → ⊥
    other e = cc
body_fits most (Ok (form.Length size)) stream content rest bound reads = go (leb size (length stream)) reads
  where
    go : (b : Bool) → whole content rest ≡ cond b (whole (take size stream) (drop size stream)) unended → length content ≤ most
    go true e = omega (arith, bound size refl, ap length (same_whole content (take size stream) rest (drop size stream) e), length-take size stream)
    go false e = absurd cc
body_fits most (Ok form.Chunked) stream content rest bound reads = chunks_fit most reads.0 stream content rest reads.1

-- a request's body has at most 16 MiB
pub request_within : (stream : List ℕ) (head : Head) (content : List ℕ) (closing : Bool) (rest : List ℕ) → ReadsMessage stream (request head content closing rest) → length content ≤ 16777216
request_within stream head content closing rest (headed h tail, found, told) = by_body told.0 told.1 told.2
  where
    same_body : (p q : List ℕ) (h k : Head) (c d : Bool) (r s : List ℕ) → request h p c r ≡ request k q d s → p ≡ q
    same_body p q h k c d r s e = cc

    by_body : (b : BodyReading) → ReadsBody 16777216 (request_form 16777216 h) tail b → request head content closing rest ≡ with_head h b → length content ≤ 16777216
    by_body (whole more last) reads is =
        omega (arith, body_fits 16777216 (request_form 16777216 h) tail more last (request_fits 16777216 h) reads, ap length (same_body content more head h closing (closes h.minor h.fields) rest last is))
    by_body unended reads is = absurd cc
    by_body (refused flaw) reads is = absurd cc
request_within stream head content closing rest (nothing, found, is) = absurd (other is)
  where
    other : request head content closing rest ≡ ended → ⊥
    other e = cc
request_within stream head content closing rest (cut, found, is) = absurd (other is)
  where
    other : request head content closing rest ≡ truncated → ⊥
    other e = cc
request_within stream head content closing rest (faulty flaw, found, is) = absurd (other is)
  where
    other : request head content closing rest ≡ bad flaw → ⊥
    other e = cc

response_fits : (most : ℕ) (to_head : Bool) (head : ResponseHead) (size : ℕ) → response_form most to_head head ≡ Ok (Some (form.Length size)) → size ≤ most
response_fits most to_head head size e = go (is_bodiless to_head head) (count_by (is_named (codes "content-length")) head.fields == 0 && count_by (is_named (codes "transfer-encoding")) head.fields == 0) e
  where
    some_fits : (f : Result Form Flaw) → ((n : ℕ) → f ≡ Ok (form.Length n) → n ≤ most) → some_form f ≡ Ok (Some (form.Length size)) → size ≤ most
    some_fits (Ok (form.Length n)) bound e =
        let same : n ≡ size = cc in
        omega (arith, bound n refl, same)
    some_fits (Ok form.Chunked) bound e = absurd cc
    some_fits (Err flaw) bound e = absurd cc

    go : (a b : Bool) → cond a (Ok (Some (form.Length 0))) (cond b (Ok None) (some_form (form_in most head.minor head.fields))) ≡ Ok (Some (form.Length size)) → size ≤ most
    go true b e =
        let same : 0 ≡ size = cc in
        omega (arith, same)
    go false true e = absurd cc
    go false false e = some_fits (form_in most head.minor head.fields) (in_fits most head.minor head.fields) e

response_body_fits : (most : ℕ) (f : Result (Option Form) Flaw) (stream content rest : List ℕ) → ((size : ℕ) → f ≡ Ok (Some (form.Length size)) → size ≤ most) → ReadsResponseBody most f stream (whole content rest) → length content ≤ most
response_body_fits most (Err flaw) stream content rest bound reads = absurd (other reads)
  where
    other : whole content rest ≡ refused flaw → ⊥
    other e = cc
response_body_fits most (Ok None) stream content rest bound reads = go (leb (length stream) most) refl reads
  where
    go : (b : Bool) → leb (length stream) most ≡ b → whole content rest ≡ cond b (whole stream []) (refused BodyTooLarge) → length content ≤ most
    go true is e =
        let fits : length stream ≤ most = grind (arith, nat_tests, is) in
        omega (arith, fits, ap length (same_whole content stream rest [] e))
    go false is e = absurd cc
response_body_fits most (Ok (Some f)) stream content rest bound reads = body_fits most (Ok f) stream content rest (λ size e. bound size (ap some_form e)) reads

-- a response's body has at most 256 MiB
pub response_within : (to_head : Bool) (stream : List ℕ) (status : ℕ) (fields : Pairs) (content rest : List ℕ) → ReadsResponseMessage to_head stream (response status fields content rest) → length content ≤ 268435456
response_within to_head stream status fields content rest (headed h tail, found, told) = by_body told.0 told.1 told.2
  where
    same_body : (p q : List ℕ) (m n : ℕ) (f g : Pairs) (r s : List ℕ) → response m f p r ≡ response n g q s → p ≡ q
    same_body p q m n f g r s e = cc

    by_body : (b : BodyReading) → ReadsResponseBody 268435456 (response_form 268435456 to_head h) tail b → response status fields content rest ≡ with_response h b → length content ≤ 268435456
    by_body (whole more last) reads is =
        omega (arith, response_body_fits 268435456 (response_form 268435456 to_head h) tail more last (response_fits 268435456 to_head h) reads, ap length (same_body content more status h.status fields h.fields rest last is))
    by_body unended reads is = absurd cc
    by_body (refused flaw) reads is = absurd cc
response_within to_head stream status fields content rest (nothing, found, is) = absurd (other is)
  where
    other : response status fields content rest ≡ response_cut → ⊥
    other e = cc
response_within to_head stream status fields content rest (cut, found, is) = absurd (other is)
  where
    other : response status fields content rest ≡ response_cut → ⊥
    other e = cc
response_within to_head stream status fields content rest (faulty flaw, found, is) = absurd (other is)
  where
    other : response status fields content rest ≡ response_bad → ⊥
    other e = cc
