use Rattle.std.proofs.Common.{rules, ◌≡◌, Some}
use Rattle.edge_core.specs.Objects.{segment_in}
use Rattle.edge_core.proofs.Listings.{segment_of_name}
use Rattle.edge_core.proofs.shelf.last_segment.Goals as goal

pub returns-else-contains-clause-one : goal.returns-else-contains-clause-one
returns-else-contains-clause-one c =
    let is : segment_in c.args.dir.now c.args.name.now ≡ Some c.in_ok-segment.segment.now = search rules in
    segment_of_name c.args.dir.now c.args.name.now c.in_ok-segment.segment.now c.requires is
