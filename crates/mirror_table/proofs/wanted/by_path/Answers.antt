use Rattle.std.proofs.Common.{◌∙◌, ◌∷◌, [], None, ap, fold, map, sym, take}
use Rattle.std.proofs.lemmas.List.Sums.{fold-append}
use Rattle.log_actions.specs.declared.actions.Action.TheVariants as action
use Rattle.log_replay.specs.Applied.{after}
use Rattle.log_replay.proofs.AppliedLemmas.{map_take_more}
use Rattle.mirror_table.proofs.wanted.by_path.Goals as goal

pub loop-file-preserved : goal.loop-file-preserved
loop-file-preserved c = λ q.
    c.in_ok-put.ensures q ∙ ap (λ o. after q o (action.Add c.file-item.result.now)) (c.loop-file.invariant q)
    ∙ sym (ap (fold (after q) None) (map_take_more (λ f. action.Add f.now) c.args.files.now c.loop-file.file-index c.file-item.result c.loop-file-test.true c.file-item.is)
    ∙ fold-append (after q) None (map (λ f. action.Add f.now) (take c.loop-file.file-index c.args.files.now)) (action.Add c.file-item.result.now ∷ []))
