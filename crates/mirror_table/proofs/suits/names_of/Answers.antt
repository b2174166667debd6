use Rattle.std.proofs.Common.{◌∙◌, ◌++◌, ◌∷◌, [], ap, sym}
use Rattle.log_actions.specs.Paths.{name_under}
use Rattle.mirror_table.specs.Refusals.{names_of}
use Rattle.mirror_table.proofs.TextLemmas.{more_of}
use Rattle.mirror_table.proofs.suits.names_of.Goals as goal

pub loop-file-preserved : goal.loop-file-preserved
loop-file-preserved c =
    c.in_ok-push_name.ensures ∙ ap (λ l. l ++ names_of c.args.location.now (c.file-item.result.now.path ∷ [])) c.loop-file.invariant
    ∙ sym (more_of (name_under c.args.location.now) (λ f. f.now.path) c.args.files.now c.loop-file.file-index c.file-item.result c.loop-file-test.true c.file-item.is)
