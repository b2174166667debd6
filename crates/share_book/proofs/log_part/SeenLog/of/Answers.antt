use Rattle.std.proofs.Common.{List, sym, ap, ◌∙◌, subst}
use Rattle.log_actions.specs.declared.actions.Action.{Action}
use Rattle.log_replay.specs.Standing.{IsSupported}
use Rattle.log_replay.specs.Times.{marks_in}
use Rattle.share_book.specs.Bases.{AllStatesIn}
use Rattle.share_book.proofs.log_part.SeenLog.of.Goals as goal

pub invariant_of-result : goal.invariant_of-result
invariant_of-result c =
    let commits = sym c.held.ensures.commits in
    record {
      supported = subst IsSupported commits c.held.ensures.kept.0;
      marked = c.marks.ensures ∙ ap marks_in commits;
      states = subst (λ (l : List (List Action)). AllStatesIn l c.snapshots.result.now) commits c.snapshots.ensures;
    }
