use Rattle.std.proofs.Common.{ap, ◌∙◌}
use Rattle.std.specs.List.{list_any}
use Rattle.json_tree.specs.Lists.{pair_of}
use Rattle.log_replay.proofs.AppliedLemmas.{list_any-map}
use Rattle.commit_check.specs.Lawful as lawful
use Rattle.commit_check.proofs.written.is_append_only.Goals as goal

pub returns : goal.returns
returns c = c.set_append_only.ensures ∙ list_any-map lawful.sets_append_only pair_of c.items.result.now ∙ ap (list_any lawful.sets_append_only) c.items.ensures.items
