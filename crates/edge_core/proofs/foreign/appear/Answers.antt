use Rattle.std.proofs.Common.{rules, ◌≡◌, None, if◌then◌else◌}
use Rattle.std.specs.FinMap as finmap
use Rattle.edge_core.specs.Stored.{with_one}
use Rattle.edge_core.proofs.Shelves.{grows_add}
use Rattle.edge_core.proofs.foreign.appear.Goals as goal

pub returns-then-is_none-clause-grows : goal.returns-then-is_none-clause-grows
returns-then-is_none-clause-grows c =
    let none : finmap.get c.args.shelf.now.0 c.args.next.now.object.name ≡ None = search rules in
    let gives : c.add.new.self ≡ (if c.add.result then with_one c.args.shelf.now c.args.next.now.object.name c.args.next.now.object.bytes.items else c.args.shelf.now) = search rules in
    grows_add c.add.result c.args.shelf.now c.add.new.self c.args.next.now.object.name c.args.next.now.object.bytes.items none gives
