use Rattle.std.proofs.Common.{◌+◌, ◌≤◌, List, map, take, sym, subst, arith}
use Rattle.std.specs.Prelude.{IfSome}
use Rattle.std.specs.Arc.{arc_value}
use Rattle.std.specs.Option.{option_map}
use Rattle.log_actions.specs.declared.actions.Action.{Action}
use Rattle.share_book.specs.Bases.{AllStatesIn, IsStateIn}
use Rattle.share_book.specs.Views.{Log}
use Rattle.share_book.proofs.States.{state_in_front}
use Rattle.share_book.proofs.log_part.SeenLog.base.Goals as goal

pub returns-in_ok-share-in-Some-latest : goal.returns-in_ok-share-in-Some-latest
returns-in_ok-share-in-Some-latest c =
    let commits : List (List Action) = map arc_value c.self.inside.commits.now in
    let s = c.in-Some-latest.state.now in
    let there = c.in-Some-latest.ensures.there in
    let below : s.version ≤ c.args.version = there.1 in
    let kept : AllStatesIn commits c.in-Some.snapshots.now = subst (λ o. IfSome (option_map (λ s. s.now) o) (AllStatesIn commits)) c.in-Some.is c.self.invariant.states in
    let front : IsStateIn (take (c.args.version + 1) commits) s = state_in_front commits (c.args.version + 1) s (omega arith) (kept (there.0.0, s) there.0.1) in
    subst (IsStateIn (take (c.args.version + 1) c.args.self.now.commits)) (sym c.in_ok-share-in-Some-latest.ensures)
    (subst (λ (l : Log). IsStateIn (take (c.args.version + 1) l.commits) s) c.self.view_is front)
