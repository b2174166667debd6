use Rattle.std.proofs.Common.{◌≡◌, ◌++◌, ◌∙◌, sym, ap, string_bytes, true≢false, refl, arith, append_assoc}
use Rattle.std.specs.Prelude.{codes}
use Rattle.edge_core.specs.Names.{is_name}
use Rattle.catalog_log.specs.RecordNames.{record_name_of}
use Rattle.edge_core.proofs.Numbered.{in_20_digits}
use Rattle.catalog_log.proofs.NameLemmas.{record_is_name}
use Rattle.catalog_log.proofs.names.record_name.Goals as goal

pub unreachable-requires : goal.unreachable-requires
unreachable-requires c =
    let e : string_bytes c.in_ok-format.field-0 ≡ record_name_of c.args.number = c.in_ok-format.ensures.ok ∙ rw (c.laid_out.ensures, in_20_digits c.args.number) (simp append_assoc refl) in
    true≢false (sym (record_is_name c.args.number (omega arith)) ∙ ap is_name (sym e) ∙ c.in-None.ensures)

pub returns : goal.returns
returns c = c.in-Some.ensures.0 ∙ c.in_ok-format.ensures.ok ∙ rw (c.laid_out.ensures, in_20_digits c.args.number) (simp append_assoc refl)
