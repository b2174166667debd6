use Rattle.std.proofs.Common.{ap, ◌∙◌}
use Rattle.std.specs.Prelude.{filter_map}
use Rattle.log_commit.specs.Names.{version_of}
use Rattle.log_store.proofs.Loading.{listed_there}
use Rattle.log_store.proofs.log.listed_versions.Goals as goal

pub returns-in-Names-clause-versions : goal.returns-in-Names-clause-versions
returns-in-Names-clause-versions g c =
    listed_there _ c.args.location.now _ _ _ (c.in-Names.ensures.names).1 c.in_ok-folder.ensures (c.in_ok-versions_of-in-Names.ensures ∙ ap (filter_map version_of) c.items.ensures)
