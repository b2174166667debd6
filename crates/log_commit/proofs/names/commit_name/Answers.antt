use Rattle.std.proofs.Common.{◌≡◌, ◌∙◌, string_bytes, append_assoc, refl, arith}
use Rattle.log_commit.specs.Names.{commit_name}
use Rattle.edge_core.proofs.Numbered.{in_20_digits}
use Rattle.log_commit.proofs.NameLemmas.{commit_is_name, made_name}
use Rattle.log_commit.proofs.names.commit_name.Goals as goal

pub returns : goal.returns
returns c =
    let e : string_bytes c.in_ok-format.field-0 ≡ commit_name c.args.location.now c.args.version = c.in_ok-format.ensures.ok ∙ rw (c.as_str.ensures.value, c.laid_out.ensures, in_20_digits c.args.version) (simp append_assoc refl) in
    made_name _ (commit_name c.args.location.now c.args.version) c.of.result _ e (commit_is_name c.args.location.now c.args.version c.as_str.ensures.good (omega arith)) c.of.ensures
