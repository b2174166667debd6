use Rattle.std.proofs.Common.{arith, ap, ◌∙◌}
use Rattle.std.specs.Option.{option_or}
use Rattle.log_store.proofs.VersionLemmas.{leading_most}
use Rattle.log_store.proofs.Loading.{are_stored, loaded_log}
use Rattle.log_store.proofs.log.read_listed.Goals as goal

pub read_on-requires-clause-small : goal.read_on-requires-clause-small
read_on-requires-clause-small g c = omega (arith, c.leading-count.ensures, leading_most 0 c.args.versions.now)

pub read_on-requires-clause-stored : goal.read_on-requires-clause-stored
read_on-requires-clause-stored g c =
    are_stored _ c.args.location.now c.args.versions.now c.leading-count.result c.requires.listed (omega arith) c.leading-count.ensures

pub returns-then-is_some-clause-log : goal.returns-then-is_some-clause-log
returns-then-is_some-clause-log g c =
    loaded_log _ c.args.location.now c.args.versions.now c.leading-count.result c.read_on.new.kept c.in_ok-block.block c.or.result c.requires.listed (omega arith) c.leading-count.ensures c.in_ok-block.ensures.log
    (c.or.ensures ∙ ap (option_or c.in_ok-block.block) c.gap.ensures)
