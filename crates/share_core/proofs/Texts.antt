-- The text of a plan's lines, one line after another.
use Rattle.std.proofs.Common.{◌≡◌, ℕ, suc, ◌+◌, ◌<◌, ◌≤◌, List, [], ◌∷◌, ◌++◌, length, take, get_or, Some, sym, ap, ◌∙◌, arith}
use Rattle.std.specs.Prelude.{slice_get}
use Rattle.std.proofs.lemmas.Grind.{flat_map-append}
use Rattle.std.proofs.lemmas.List.{append-nil, take_all}
use Rattle.std.proofs.lemmas.Option.{slice_get-get_or}
use Rattle.share_reply.specs.Formats.{body_of}
use Rattle.share_reply.specs.Planned.{fed, fed_or_none, text_at}
use Rattle.share_reply.proofs.Cutting.{take_next}

pub text_next : (lines : List (List ℕ)) (n : ℕ) (old new : List ℕ) → n < length lines → old ≡ body_of (take n lines) → new ≡ old ++ text_at lines n → new ≡ body_of (take (n + 1) lines)
text_next lines n old new within was is =
    let x = get_or lines n [] in
    let there : slice_get lines n ≡ Some x = slice_get-get_or lines n [] within in
    let e : suc n ≡ n + 1 = omega arith in
    is ∙ (λ i. was i ++ fed_or_none (there i)) ∙ ap (λ t. body_of (take n lines) ++ t) (sym (append-nil (fed x))) ∙ sym (flat_map-append fed (take n lines) (x ∷ []))
    ∙ ap body_of (sym (take_next lines n x there)) ∙ ap (λ k. body_of (take k lines)) e

pub text_whole : (lines : List (List ℕ)) (n : ℕ) (text : List ℕ) → length lines ≤ n → text ≡ body_of (take n lines) → text ≡ body_of lines
text_whole lines n text past so = so ∙ ap body_of (take_all n lines past)
