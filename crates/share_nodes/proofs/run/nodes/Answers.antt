use Rattle.std.proofs.Common.{◌≡◌, ◌++◌, ◌+◌, ◌∷◌, [], List, map, take, sym, ap, ◌∙◌, subst}
use Rattle.std.proofs.lemmas.List.{map-append}
use Rattle.share_nodes.specs.Steps.{Step, World, after, world_of}
use Rattle.log_actions.specs.declared.actions.Action.{Action}
use Rattle.share_nodes.specs.Code.{IsAhead, step_of}
use Rattle.share_nodes.proofs.Runs.{take_next}
use Rattle.share_nodes.proofs.Worlds.{ahead, one_more}
use Rattle.share_nodes.proofs.run.nodes.Goals as goal

pub take-requires : goal.take-requires
take-requires c = subst IsAhead (sym c.loop-step.invariant) (ahead (map step_of (take c.loop-step.step-index c.args.steps.now)))

pub loop-step-preserved : goal.loop-step-preserved
loop-step-preserved c =
    let i = c.loop-step.step-index in
    let all = c.args.steps.now in
    let x = c.step-item.result in
    let front : List (Step (List Action)) = map step_of (take i all) in
    let more : map step_of (take (i + 1) all) ≡ front ++ step_of x ∷ [] = ap (map step_of) (take_next all i x c.loop-step-test.true c.step-item.is) ∙ map-append step_of (take i all) (x ∷ []) in
    c.in_ok-take.ensures ∙ ap (λ (w : World (List Action)). after w (step_of x)) c.loop-step.invariant ∙ sym (one_more front (step_of x)) ∙ ap world_of (sym more)
