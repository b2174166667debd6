use Rattle.std.proofs.Common.{◌∙◌, ◌==◌, ◌&&◌, ap, length, sym}
use Rattle.std.specs.Prelude.{option_map}
use Rattle.mirror_table.specs.Goals.{goal_of}
use Rattle.mirror_table.specs.Targets.{has_mark}
use Rattle.mirror_table.proofs.Following.{followed_none, followed_some}
use Rattle.mirror_table.proofs.follow.followed.Goals as goal

pub returns-then-is_reached : goal.returns-then-is_reached
returns-then-is_reached c = λ log head.
    let state = option_map (λ s. s.now) c.args.state in
    let g = goal_of c.args.shared.now in
    followed_none log state c.args.bytes c.args.now g c.in_ok-actions.actions.items c.in_ok-actions.ensures
    (ap (λ l. (length l == 2) && has_mark state g) (sym c.deref.ensures.value) ∙ sym c.is_reached.ensures ∙ c.if-is_reached.true)

pub returns : goal.returns
returns c = λ log head.
    let state = option_map (λ s. s.now) c.args.state in
    let g = goal_of c.args.shared.now in
    followed_some log state c.args.bytes c.args.now g c.in_ok-actions.actions.items c.made_some.result c.in_ok-actions.ensures
    (ap (λ l. (length l == 2) && has_mark state g) (sym c.deref.ensures.value) ∙ sym c.is_reached.ensures ∙ c.if-is_reached.false)
    (c.made_some.ensures log head)
