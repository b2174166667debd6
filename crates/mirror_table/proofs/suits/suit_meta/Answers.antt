use Rattle.std.proofs.Common.{◌≡◌, ◌∙◌, Bool, true, false, None, Some, ap, cond, sym}
use Rattle.std.specs.List.{list_any}
use Rattle.json_tree.specs.Lists.{pair_of}
use Rattle.log_replay.proofs.AppliedLemmas.{list_any-map}
use Rattle.mirror_table.specs.Refusals.{sets_times}
use Rattle.mirror_table.specs.declared.ends.Unsuited.TheVariants as unsuited
use Rattle.mirror_table.proofs.suits.suit_meta.Goals as goal

pub returns-then-set_times : goal.returns-then-set_times
returns-then-set_times c =
    sym (ap (λ b. cond b (Some unsuited.TimesInCommits) None)
    (ap (list_any sets_times) (sym c.items.ensures.items) ∙ sym (list_any-map sets_times pair_of c.items.result.now) ∙ sym c.set_times.ensures ∙ c.if-set_times.true))

pub returns-else-set_times : goal.returns-else-set_times
returns-else-set_times c =
    sym (ap (λ b. cond b (Some unsuited.TimesInCommits) None)
    (ap (list_any sets_times) (sym c.items.ensures.items) ∙ sym (list_any-map sets_times pair_of c.items.result.now) ∙ sym c.set_times.ensures ∙ c.if-set_times.false))
