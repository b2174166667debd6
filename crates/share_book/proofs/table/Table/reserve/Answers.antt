use Rattle.std.proofs.Common.{map, sym, ap, ◌∙◌, subst, rules}
use Rattle.std.specs.Arc.{arc_value}
use Rattle.log_actions.specs.CommitTexts.{printed_bytes}
use Rattle.log_replay.specs.Times.{marks_in}
use Rattle.log_replay.proofs.Reached.{Arcs}
use Rattle.share_book.specs.Bases.{AllStatesIn}
use Rattle.share_book.specs.Legal.{IsKeptLog}
use Rattle.share_book.proofs.table.Table.reserve.Goals as goal

pub invariant_of-self-in_err-reserve-2 : goal.invariant_of-self-in_err-reserve-2
invariant_of-self-in_err-reserve-2 c =
    let same = c.reserve.ensures.items in
    record {
      kept = subst (λ (cs : Arcs). IsKeptLog (map arc_value cs)) (sym same) c.self.invariant.kept;
      counted = c.self.invariant.counted ∙ ap (λ (cs : Arcs). printed_bytes (map arc_value cs)) (sym same);
      marked = c.reserve-2.ensures.items ∙ c.self.invariant.marked ∙ ap (λ (cs : Arcs). marks_in (map arc_value cs)) (sym same);
      fits = search rules;
      marks_fit = search rules;
      states = subst (λ (cs : Arcs). AllStatesIn (map arc_value cs) c.self.inside.snapshots) (sym same) c.self.invariant.states;
    }

pub invariant_of-self-2 : goal.invariant_of-self-2
invariant_of-self-2 c =
    let same = c.reserve.ensures.items in
    record {
      kept = subst (λ (cs : Arcs). IsKeptLog (map arc_value cs)) (sym same) c.self.invariant.kept;
      counted = c.self.invariant.counted ∙ ap (λ (cs : Arcs). printed_bytes (map arc_value cs)) (sym same);
      marked = c.reserve-2.ensures.items ∙ c.self.invariant.marked ∙ ap (λ (cs : Arcs). marks_in (map arc_value cs)) (sym same);
      fits = search rules;
      marks_fit = search rules;
      states = subst (λ (cs : Arcs). AllStatesIn (map arc_value cs) c.self.inside.snapshots) (sym same) c.self.invariant.states;
    }
