-- Lines written one after another.
use Rattle.std.proofs.Common.{◌≡◌, ℕ, suc, ◌+◌, ◌<◌, List, [], ◌∷◌, ◌++◌, length, take, drop, get_or, Option, Some, sym, ap, ◌∙◌, subst, arith}
use Rattle.std.specs.Prelude.{slice_get}
use Rattle.std.specs.Io.KnownBytes.{append_known}
use Rattle.std.proofs.lemmas.Grind.{flat_map-append}
use Rattle.std.proofs.lemmas.List.{append-nil, take-append-drop}
use Rattle.std.proofs.lemmas.Option.{slice_get-get_or}
use Rattle.share_reply.specs.Formats.{body_of}
use Rattle.share_reply.specs.Planned.{fed, fed_or_none, text_at}
use Rattle.share_reply.proofs.Cutting.{take_next}
use Rattle.share_serve.specs.Sends.{IsInPart}
use Rattle.share_serve.specs.declared.send.Sent.TheVariants as sent
use Rattle.share_serve.proofs.Sent.{behind_part, part_before, sent_behind}

-- one line more
lines_next : (lines : List (List ℕ)) (n : ℕ) → n < length lines → body_of (take (n + 1) lines) ≡ body_of (take n lines) ++ text_at lines n
lines_next lines n within =
    let x = get_or lines n [] in
    let is : slice_get lines n ≡ Some x = slice_get-get_or lines n [] within in
    let e : n + 1 ≡ suc n = omega arith in
    ap (λ k. body_of (take k lines)) e
    ∙ ap body_of (take_next lines n x is)
    ∙ flat_map-append fed (take n lines) (x ∷ [])
    ∙ ap (λ t. body_of (take n lines) ++ t) (append-nil (fed x) ∙ ap fed_or_none (sym is))

lines_whole : (lines : List (List ℕ)) (n : ℕ) → body_of (take n lines) ++ body_of (drop n lines) ≡ body_of lines
lines_whole lines n = sym (flat_map-append fed (take n lines) (drop n lines)) ∙ ap body_of (take-append-drop n lines)

pub line_sent : (lines : List (List ℕ)) (n : ℕ) (old mid new : Option (List ℕ)) → n < length lines → mid ≡ append_known old (body_of (take n lines)) → new ≡ append_known mid (text_at lines n) → new ≡ append_known old (body_of (take (n + 1) lines))
line_sent lines n old mid new lt was is = sent_behind (body_of (take n lines)) (text_at lines n) sent.Whole old mid new was is ∙ ap (append_known old) (sym (lines_next lines n lt))

pub line_in_part : (lines : List (List ℕ)) (n : ℕ) (old mid new : Option (List ℕ)) → n < length lines → mid ≡ append_known old (body_of (take n lines)) → IsInPart (text_at lines n) mid new → IsInPart (body_of lines) old new
line_in_part lines n old mid new lt was p =
    let part = behind_part (body_of (take n lines)) (text_at lines n) old mid new was p in
    let upto = subst (λ (z : List ℕ). IsInPart z old new) (sym (lines_next lines n lt)) part in
    subst (λ (z : List ℕ). IsInPart z old new) (lines_whole lines (n + 1)) (part_before (body_of (take (n + 1) lines)) (body_of (drop (n + 1) lines)) old new upto)
