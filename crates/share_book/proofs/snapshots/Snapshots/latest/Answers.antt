use Rattle.std.proofs.Common.{ℕ, List, sym, subst}
use Rattle.std.specs.Option.{option_map}
use Rattle.log_replay.specs.State.{State}
use Rattle.share_book.proofs.Latest.{IsLatest, latest_all, latest_more}
use Rattle.share_book.proofs.snapshots.Snapshots.latest.Goals as goal

pub loop-state-preserved : goal.loop-state-preserved
loop-state-preserved c =
    let best = option_map (λ s. s.now) c.loop-state.best in
    subst (IsLatest c.args.self.now c.next.new.self c.args.version) (sym c.later-best.ensures)
    (latest_more c.args.self.now c.next.new.self c.args.version c.in-Some.field-0-0.now best c.in-Some.state.now
    (subst (λ (l : List (ℕ × State)). IsLatest c.args.self.now l c.args.version best) c.in-Some.ensures.steps c.loop-state.invariant))

pub returns-clause-greatest : goal.returns-clause-greatest
returns-clause-greatest c =
    let best = option_map (λ s. s.now) c.loop-state.best in
    latest_all c.args.self.now c.args.version best (subst (λ (l : List (ℕ × State)). IsLatest c.args.self.now l c.args.version best) c.in-None.ensures.steps.0 c.loop-state.invariant)
