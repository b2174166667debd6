use Rattle.std.proofs.Common.{◌≡◌, ◌+◌, ◌-◌, List, [], ◌∷◌, ◌++◌, Some, length, map, sym, ap, ◌∙◌, subst, arith, rules}
use Rattle.std.specs.Arc.{arc_value}
use Rattle.std.specs.List.{slice_get}
use Rattle.std.specs.Option.{option_map}
use Rattle.std.proofs.lemmas.List.{length-map, map-append}
use Rattle.log_actions.specs.declared.actions.Action.{Action}
use Rattle.log_actions.specs.CommitTexts.{commit_text, printed_bytes}
use Rattle.std.proofs.lemmas.List.Sums.{sum_by-append}
use Rattle.log_replay.specs.Times.{last_mark, marks_in}
use Rattle.log_replay.specs.declared.times.Mark.{Mark}
use Rattle.log_replay.proofs.TimeLemmas.{marks_end, marks_more}
use Rattle.share_book.specs.Bases.{IsStateIn}
use Rattle.share_book.proofs.States.{state_in_longer}
use Rattle.share_book.proofs.table.Table.push.Goals as goal

pub invariant_of-self : goal.invariant_of-self
invariant_of-self c =
    let log : List (List Action) = map arc_value c.self.inside.commits.items in
    let own : List Action = c.args.commit.value in
    let marks : c.deref.result.now ≡ marks_in log = c.deref.ensures.value ∙ c.self.invariant.marked in
    let last : last_mark log ≡ option_map (λ m. m.now) c.last.result = sym (c.last.ensures.value ∙ ap (λ (ms : List Mark). slice_get ms (length ms - 1)) marks ∙ (marks_end log).1) in
    let long : length log ≡ c.len-version.result = length-map c.self.inside.commits.items arc_value ∙ search rules in
    let mark : last_mark (log ++ own ∷ []) ≡ Some c.mark_of-mark.result = subst (λ (a : List Action). last_mark (log ++ a ∷ []) ≡ Some c.mark_of-mark.result) c.deref-2.ensures (c.mark_of-mark.ensures.mark log last long) in
    let push : map arc_value c.push_reserved-2.new.self.items ≡ log ++ own ∷ [] = ap (map arc_value) c.push_reserved-2.ensures.items ∙ map-append arc_value c.self.inside.commits.items (c.args.commit ∷ []) in
    let sum : printed_bytes (map arc_value c.push_reserved-2.new.self.items) ≡ printed_bytes log + (0 + length (commit_text own)) = ap printed_bytes push ∙ sum_by-append (λ (a : List Action). length (commit_text a)) log (own ∷ []) in
    let before : c.self.inside.bytes ≡ printed_bytes log = c.self.invariant.counted in
    let more : c.args.bytes ≡ length (commit_text own) = c.requires.bytes in
    record {
      kept = search rules;
      counted = omega (arith, sum, before, more);
      marked = c.push_reserved.ensures.items ∙ ap (λ (ms : List Mark). ms ++ c.mark_of-mark.result ∷ []) c.self.invariant.marked ∙ sym (marks_more log own c.mark_of-mark.result mark) ∙ ap marks_in (sym push);
      fits = search rules;
      marks_fit = search rules;
      states = λ e h. subst (λ (l : List (List Action)). IsStateIn l e.1) (sym push) (state_in_longer log (own ∷ []) e.1 (c.self.invariant.states e h));
    }
