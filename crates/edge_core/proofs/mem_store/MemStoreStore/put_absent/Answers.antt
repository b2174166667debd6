use Rattle.std.proofs.Common.{rules, ◌≡◌, None}
use Rattle.std.specs.FinMap as finmap
use Rattle.edge_core.specs.Stored.{with_one}
use Rattle.edge_core.proofs.Puts.{stores_put, fails_put}
use Rattle.edge_core.proofs.mem_store.MemStoreStore.put_absent.Goals as goal

pub returns-then-failed-clause-object : goal.returns-then-failed-clause-object
returns-then-failed-clause-object c =
    let none : finmap.get c.arrive.new.self.shelf.0 c.args.name.now ≡ None = search rules in
    fails_put _ c.add.result c.args.self.now.shelf c.arrive.new.self.shelf c.add.new.self c.args.name.now c.args.bytes.now
    c.arrive.ensures.grows c.arrive.ensures.same none c.add.ensures.gives

pub returns-else-failed-clause-object : goal.returns-else-failed-clause-object
returns-else-failed-clause-object c =
    let none : finmap.get c.arrive.new.self.shelf.0 c.args.name.now ≡ None = search rules in
    let stored : c.add.new.self ≡ with_one c.arrive.new.self.shelf c.args.name.now c.args.bytes.now = search rules in
    stores_put _ c.args.self.now.shelf c.arrive.new.self.shelf c.add.new.self c.args.name.now c.args.bytes.now
    c.arrive.ensures.grows c.arrive.ensures.same none stored
