-- Where a line stands among the lines of a plan.
use Rattle.std.proofs.Common.{◌≡◌, ℕ, zero, suc, ◌+◌, ◌-◌, ◌≤◌, ◌<◌, List, [], ◌∷◌, ◌++◌, take, length, map, Option, Some, None, option_map, refl, sym, ap, ◌∙◌, arith, get_or}
use Rattle.std.specs.Prelude.{slice_get, option_to_list}
use Rattle.std.proofs.lemmas.Grind.{flat_map-append}
use Rattle.std.proofs.lemmas.List.{append-nil, length-append, length-map}
use Rattle.std.proofs.lemmas.Option.{slice_get-get_or, slice_get_past}
use Rattle.delta_lines.specs.declared.kinds.DeltaLine.TheVariants as line
use Rattle.page_token.specs.declared.cursor.TableAccess.{TableAccess}
use Rattle.share_reply.specs.Formats.{body_of}
use Rattle.share_reply.specs.Feeds.{given_change}
use Rattle.share_reply.specs.Files.{given_file}
use Rattle.share_reply.specs.Planned.{content_lines, count_of, fed, fed_or_none, text_at}
use Rattle.share_reply.specs.declared.keys.ReplyKeys.{ReplyKeys}
use Rattle.share_reply.specs.declared.lines.Content.{Content}
use Rattle.share_reply.specs.declared.lines.Content.TheVariants as content
use Rattle.share_reply.proofs.Cutting.{take_next}

pub get_front : {X : Type 0} (xs ys : List X) (n : ℕ) → n < length xs → slice_get (xs ++ ys) n ≡ slice_get xs n
get_front [] ys n lt = absurd (omega arith)
get_front (x ∷ xs) ys zero lt = refl
get_front (x ∷ xs) ys (suc n) lt = get_front xs ys n (omega arith)

pub get_back : {X : Type 0} (xs ys : List X) (n : ℕ) → length xs ≤ n → slice_get (xs ++ ys) n ≡ slice_get ys (n - length xs)
get_back [] ys n le = let e : n ≡ n - 0 = omega arith in ap (slice_get ys) e
get_back (x ∷ xs) ys zero le = absurd (omega arith)
get_back (x ∷ xs) ys (suc n) le = let e : n - length xs ≡ suc n - suc (length xs) = omega arith in get_back xs ys n (omega arith) ∙ ap (slice_get ys) e

-- behind the one element that there may be
pub get_after : {X : Type 0} (o : Option X) (n : ℕ) → 0 < n → slice_get (option_to_list o) n ≡ None
get_after None n after = refl
get_after (Some x) n after = let past : length (x ∷ []) ≤ n = omega arith in slice_get_past (x ∷ []) n past

-- behind the first two
pub get_third : {X : Type 0} (x y : X) (zs : List X) (n : ℕ) → 2 ≤ n → slice_get (x ∷ y ∷ zs) n ≡ slice_get zs (n - 2)
get_third x y zs n le = let e : n ≡ suc (suc (n - 2)) = omega arith in ap (slice_get (x ∷ y ∷ zs)) e

pub content_count : (keys : ReplyKeys) (a : TableAccess) (expires : ℕ) (c : Content) → length (content_lines keys a expires c) ≡ count_of c
content_count keys a expires content.Nothing = refl
content_count keys a expires (content.Files files) = length-map files.items (λ f. line.File (given_file keys a expires f.now))
content_count keys a expires (content.Changes changes) = length-map changes.items (λ c. line.File (given_change keys a expires c))

-- the bytes of one line more
pub body_next : (texts : List (List ℕ)) (n : ℕ) → n < length texts → length (body_of (take (n + 1) texts)) ≡ length (body_of (take n texts)) + length (text_at texts n)
body_next texts n within =
    let x = get_or texts n [] in
    let is : slice_get texts n ≡ Some x = slice_get-get_or texts n [] within in
    let e : n + 1 ≡ suc n = omega arith in
    ap (λ k. length (body_of (take k texts))) e
    ∙ ap (λ ls. length (body_of ls)) (take_next texts n x is)
    ∙ ap length (flat_map-append fed (take n texts) (x ∷ []))
    ∙ length-append (body_of (take n texts)) (body_of (x ∷ []))
    ∙ ap (λ t. length (body_of (take n texts)) + length t) (append-nil (fed x) ∙ ap fed_or_none (sym is))

-- the text of that number is that of the line of that number
pub text_of : {L : Type 0} (text : L → List ℕ) (lines : List L) (n : ℕ) → slice_get (map text lines) n ≡ option_map text (slice_get lines n)
text_of text [] n = refl
text_of text (l ∷ ls) zero = refl
text_of text (l ∷ ls) (suc n) = text_of text ls n
