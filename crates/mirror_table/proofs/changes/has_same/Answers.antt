use Rattle.std.proofs.Common.{◌≡◌, ◌∙◌, ap, subst, sym}
use Rattle.std.specs.Prelude.{option_map}
use Rattle.mirror_table.specs.Targets.{files_of, has_same}
use Rattle.mirror_table.proofs.FileLemmas.{same_found}
use Rattle.mirror_table.proofs.changes.has_same.Goals as goal

pub returns-in-Some-find : goal.returns-in-Some-find
returns-in-Some-find c =
    subst (λ o. c.same_file.result ≡ has_same (files_of (option_map (λ s. s.now) o)) c.args.file.now) (sym c.in-Some.is)
    (same_found c.in-Some.state.now.files c.as_str.result.now c.in-Some-find.live.now c.args.file.now c.same_file.result c.same_file.ensures
    (sym (ap (option_map (λ f. f.now)) c.in-Some-find.is) ∙ c.find.ensures) c.as_str.ensures)
