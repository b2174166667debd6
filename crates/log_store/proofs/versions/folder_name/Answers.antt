use Rattle.std.proofs.Common.{◌≡◌, ◌∙◌, sym, ap, string_bytes, append_assoc, true≢false}
use Rattle.std.specs.Prelude.{codes}
use Rattle.edge_core.specs.Names.{is_name}
use Rattle.log_commit.specs.Names.{folder}
use Rattle.log_commit.proofs.NameLemmas.{folder_is_name}
use Rattle.log_store.proofs.versions.folder_name.Goals as goal

pub unreachable-requires : goal.unreachable-requires
unreachable-requires c =
    let e : string_bytes c.in_ok-format.field-0 ≡ folder c.args.location.now = c.in_ok-format.ensures.ok ∙ rw c.as_str.ensures.value (sym (append_assoc c.args.location.now (codes "/") (codes "_delta_log"))) in
    true≢false (sym (folder_is_name c.args.location.now c.as_str.ensures.good c.requires) ∙ ap is_name (sym e) ∙ c.in-None.ensures)

pub returns : goal.returns
returns c = c.in-Some.ensures.0 ∙ c.in_ok-format.ensures.ok ∙ rw c.as_str.ensures.value (sym (append_assoc c.args.location.now (codes "/") (codes "_delta_log")))
