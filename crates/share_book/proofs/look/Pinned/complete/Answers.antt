use Rattle.std.proofs.Common.{◌≡◌, ◌+◌, List, length, Option, Result, sym, ap, ◌∙◌, subst}
use Rattle.std.specs.Prelude.{OnOk}
use Rattle.std.specs.Option.{option_map}
use Rattle.log_actions.specs.declared.actions.Action.{Action}
use Rattle.log_replay.specs.Reconciliation.{actions_in}
use Rattle.log_replay.specs.State.{State, state_of}
use Rattle.log_replay.specs.declared.refusal.NoState.{NoState}
use Rattle.share_book.specs.Bases.{MakesFound, replayed}
use Rattle.share_book.specs.Making.{IsMade}
use Rattle.share_book.specs.Looks as looks
use Rattle.share_book.specs.declared.replay.Replay.{Replay}
use Rattle.share_book.proofs.Completing.{found_made, is_made}
use Rattle.share_book.proofs.States.{replays}
use Rattle.share_book.proofs.look.Pinned.complete.Goals.{in-Ok, in-Err-Refusal}
use Rattle.share_book.proofs.look.Pinned.complete.Goals as goal

pub returns-clause-seen : goal.returns-clause-seen
returns-clause-seen g c = λ commits makes.
    let f = found_made commits c.in-Some.replay (subst (MakesFound commits) c.in-Some.is makes) in
    let told = c.state_with.ensures.state f.0 f.2 f.4 in
    let made : IsMade c.match-state_with.made (state_of f.0) = elim c.match-state_with.branch [
      | in-Ok w ↦ is_made f.0 c.state_with.result w.in-Ok.state c.match-state_with.made told w.in-Ok.is w.made-is
      | in-Err-Refusal w ↦ absurd (replays f.0 c.state_with.result w.in-Err-Refusal.field-0 w.in-Err-Refusal.field-0-0 w.in-Err-Refusal.is w.in-Err-Refusal.field-0-is told f.2 f.3)
    ] in
    c.seen_with.ensures f.0 made ∙ ap (λ (o : Option (List (List Action))). option_map (looks.seen_with o) c.args.self.look.seen) (sym f.1)

pub returns-clause-counted : goal.returns-clause-counted
returns-clause-counted g c = λ commits makes.
    let f = found_made commits c.in-Some.replay (subst (MakesFound commits) c.in-Some.is makes) in
    let told = c.state_with.ensures.state f.0 f.2 f.4 in
    let same = ap (λ (o : Option Replay). c.args.steps.now + replayed o) (sym c.in-Some.is) in
    let counted : c.state_with.new.steps ≡ c.args.steps.now + length (actions_in c.in-Some.replay.commits) = elim c.match-state_with.branch [
      | in-Ok w ↦ subst (λ (r : Result State NoState). OnOk r (c.state_with.new.steps ≡ c.args.steps.now + length (actions_in c.in-Some.replay.commits))) w.in-Ok.is c.state_with.ensures.counted
      | in-Err-Refusal w ↦ absurd (replays f.0 c.state_with.result w.in-Err-Refusal.field-0 w.in-Err-Refusal.field-0-0 w.in-Err-Refusal.is w.in-Err-Refusal.field-0-is told f.2 f.3)
    ] in
    counted ∙ same
