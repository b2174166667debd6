use Rattle.std.proofs.Common.{◌≡◌, List, ◌++◌, Some, Option, Ok, map, ap, ◌∙◌, subst}
use Rattle.std.specs.Arc.{arc_value}
use Rattle.log_actions.specs.declared.actions.Action.{Action}
use Rattle.log_replay.specs.Snapshots.{Answers}
use Rattle.log_replay.specs.Standing.{IsSupported}
use Rattle.log_replay.specs.State.{State, state_of}
use Rattle.share_book.specs.Bases.{IsBase, after_base}
use Rattle.share_book.proofs.States.{made_after}
use Rattle.share_book.proofs.replay.Replay.state.Goals as goal

pub returns-in-Some-clause-state : goal.returns-in-Some-clause-state
returns-in-Some-clause-state g c = λ commits good makes.
    let base : c.args.self.now.base ≡ Some c.in-Some.base = c.in-Some.is in
    let items : map arc_value c.items.result.now ≡ c.args.self.now.commits = c.items.ensures in
    made_after commits c.in-Some.base c.args.self.now.commits c.state_after.result (subst (IsBase commits) base makes.0)
    (makes.1 ∙ ap (λ (b : Option State). after_base b commits) base) good
    (subst (λ (rest : List (List Action)). (log : List (List Action)) → state_of log ≡ Ok c.in-Some.base → IsSupported (log ++ rest) → Answers c.state_after.result (state_of (log ++ rest))) items c.state_after.ensures.state)
