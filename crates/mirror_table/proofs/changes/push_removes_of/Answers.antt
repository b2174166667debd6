use Rattle.std.proofs.Common.{◌∙◌, ◌++◌, ◌∷◌, [], Bool, ap, arith, append_assoc, is_some, map, not, sym, take}
use Rattle.std.specs.Prelude.{filter}
use Rattle.log_actions.specs.declared.actions.AddFile.{AddFile}
use Rattle.log_replay.specs.Applied.{found}
use Rattle.mirror_table.specs.Targets.{remove_at}
use Rattle.mirror_table.proofs.FileLemmas.{removes_more}
use Rattle.mirror_table.proofs.changes.push_removes_of.Goals as goal

pub loop-place-preserved : goal.loop-place-preserved
loop-place-preserved c =
    let p : AddFile → Bool = λ f. not (is_some (found c.args.wanted.now f.path)) in
    let files = c.args.state.now.files in
    let i = c.loop-place.place in
    let f = c.file.result.now in
    c.in_ok-push_remove.ensures ∙ ap (λ l. l ++ map (remove_at c.args.now) (filter p (f ∷ []))) c.loop-place.invariant
    ∙ append_assoc c.args.actions.now.items (map (remove_at c.args.now) (filter p (take i files))) (map (remove_at c.args.now) (filter p (f ∷ [])))
    ∙ ap (λ l. c.args.actions.now.items ++ l) (sym (removes_more c.args.now p files i f (omega arith) c.file.ensures))
