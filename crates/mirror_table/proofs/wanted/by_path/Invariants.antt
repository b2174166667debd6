use Rattle.std.proofs.Common.{◌≡◌, ℕ, List, None, fold, map, take}
use Rattle.log_actions.specs.declared.actions.Action.TheVariants as action
use Rattle.log_replay.specs.Applied.{after, found}
use Rattle.mirror_table.proofs.wanted.by_path.Given as goal

abbrev pub invariant-loop-file : goal.invariant-loop-file
invariant-loop-file l = (q : List ℕ) → found l.by_path q ≡ fold (after q) None (map (λ f. action.Add f.now) (take l.file-index l.files))
