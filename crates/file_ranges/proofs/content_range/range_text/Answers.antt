use Rattle.std.proofs.Common.{◌≡◌, ◌≤◌, ◌<◌, ◌^◌, length, subst, sym, arith}
use Rattle.file_ranges.specs.Ranges.{range_text}
use Rattle.file_ranges.proofs.RangeTexts.{range_text_short}
use Rattle.file_ranges.proofs.content_range.range_text.Goals as goal

pub returns-clause-short : goal.returns-clause-short
returns-clause-short c =
    let r = c.args.range in
    let first : r.first < 2 ^ 64 = omega (arith, c.first-first.ensures.value) in
    let last : r.last < 2 ^ 64 = omega (arith, c.last-last.ensures.value) in
    let size : r.size < 2 ^ 64 = omega (arith, c.size-size.ensures.value) in
    let text : c.of.result ≡ range_text r = search (c.of.ensures, c.in_ok-format.ensures.ok, c.first-first.ensures.value, c.last-last.ensures.value, c.size-size.ensures.value) in
    subst (λ t. length t ≤ 68) (sym text) (range_text_short r first last size)
