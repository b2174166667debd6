use Rattle.std.specs.Prelude.{option_map}
use Rattle.mirror_table.proofs.Following.{suited_told, told_reaches_all}
use Rattle.mirror_table.proofs.follow.target.Goals as goal

pub returns-clause-value : goal.returns-clause-value
returns-clause-value c = λ log head.
    suited_told log (option_map (λ s. s.now) c.args.state) c.args.location.now c.args.bytes c.args.now c.args.shared.now c.followed.result c.in_ok-suits.ensures (c.followed.ensures log head)

pub returns-clause-reaches : goal.returns-clause-reaches
returns-clause-reaches c =
    told_reaches_all (option_map (λ s. s.now) c.args.state) c.args.location.now c.args.bytes c.args.now c.args.shared.now c.followed.result
    (λ log head. suited_told log (option_map (λ s. s.now) c.args.state) c.args.location.now c.args.bytes c.args.now c.args.shared.now c.followed.result c.in_ok-suits.ensures (c.followed.ensures log head))
