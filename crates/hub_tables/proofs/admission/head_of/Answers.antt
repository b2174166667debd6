use Rattle.std.proofs.Common.{◌≡◌, List, Some, length, sym, ap, ◌∙◌}
use Rattle.std.specs.Arc.{arc_value}
use Rattle.std.specs.Option.{option_map}
use Rattle.std.proofs.lemmas.Bool.{eqb-true}
use Rattle.std.proofs.lemmas.List.{length-map}
use Rattle.log_actions.specs.declared.actions.Action.{Action}
use Rattle.commit_check.specs.Winners.{winners}
use Rattle.hub_tables.proofs.Admissions.{last_read}
use Rattle.hub_tables.proofs.admission.head_of.Goals as goal

pub returns-in_ok-share-in-Some-default : goal.returns-in_ok-share-in-Some-default
returns-in_ok-share-in-Some-default c = λ read commits is at.
    let items = c.items.result.now in
    let none : length (winners commits read) ≡ 0 = ap (λ (l : List (List Action)). length l) (sym is.winners ∙ sym c.items.ensures) ∙ length-map items arc_value ∙ eqb-true (length items) 0 (sym c.if-is_empty.ensures) in
    let there : option_map (λ s. s.now) c.args.at ≡ Some c.in-Some-default.state.now = ap (option_map (λ s. s.now)) c.in-Some-default.is-0 ∙ ap (λ s. Some s.now) c.in-Some-default.state-is in
    last_read read commits c.in_ok-share-in-Some-default.field-0 (ap Some c.in_ok-share-in-Some-default.ensures ∙ sym there ∙ at) none
