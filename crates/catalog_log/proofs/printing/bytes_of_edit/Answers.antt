use Rattle.std.proofs.Common.{◌≡◌, ◌≤◌, ◌^◌, ◌∙◌, List, ℕ, ap, length, subst, sym, rules, IsUtf8}
use Rattle.catalog_log.specs.Printing.{record_text}
use Rattle.catalog_log.specs.Records.{record_in}
use Rattle.catalog_log.proofs.ReadBack.{record_back}
use Rattle.catalog_log.proofs.Shortness.{record_short}
use Rattle.catalog_log.proofs.printing.bytes_of_edit.Goals as goal

pub returns-clause-back : goal.returns-clause-back
returns-clause-back c =
    let is : c.into_bytes.result.items ≡ record_text c.args.edit.now = search rules in
    ap record_in is ∙ record_back c.args.edit.now c.in_ok-text.ensures.kept (subst IsUtf8 c.in_ok-text.ensures.text c.in_ok-text.ensures.utf8)

pub returns-clause-short : goal.returns-clause-short
returns-clause-short c =
    let is : c.into_bytes.result.items ≡ record_text c.args.edit.now = search rules in
    subst (λ (bytes : List ℕ). length bytes ≤ 2 ^ 24) (sym is) (record_short c.args.edit.now c.in_ok-text.ensures.kept)
