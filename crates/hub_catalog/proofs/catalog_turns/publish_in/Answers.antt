use Rattle.std.proofs.Common.{◌∙◌, refl, arith}
use Rattle.share_book.specs.declared.entry.Act.TheVariants.{FoundEdit}
use Rattle.hub_catalog.proofs.Loads.{found_left, publishes_in}
use Rattle.hub_catalog.proofs.catalog_turns.publish_in.Goals as goal

pub edit-requires-clause-room : goal.edit-requires-clause-room
edit-requires-clause-room c = let r = c.load_in.ensures.room in omega arith

pub edit-requires-clause-follows : goal.edit-requires-clause-follows
edit-requires-clause-follows c = c.load_in.ensures.follows (FoundEdit c.args.new.edit) refl

pub go_on-requires-clause-others : goal.go_on-requires-clause-others
go_on-requires-clause-others c = c.edit.ensures.others c.load_in.ensures.others

pub go_on-requires-clause-settled : goal.go_on-requires-clause-settled
go_on-requires-clause-settled c = (found_left _ _ c.args.caller c.args.new.edit c.load_in.ensures.room c.load_in.ensures.lines c.in-Ok.ensures.accepted).2

pub go_on-requires-clause-begun : goal.go_on-requires-clause-begun
go_on-requires-clause-begun c = (found_left _ _ c.args.caller c.args.new.edit c.load_in.ensures.room c.load_in.ensures.lines c.in-Ok.ensures.accepted).1 ∙ c.load_in.ensures.holder

pub go_on-requires-clause-room : goal.go_on-requires-clause-room
go_on-requires-clause-room c = (found_left _ _ c.args.caller c.args.new.edit c.load_in.ensures.room c.load_in.ensures.lines c.in-Ok.ensures.accepted).0

pub returns-clause-published : goal.returns-clause-published
returns-clause-published c = publishes_in c.go_on.result c.args.caller c.args.new.edit c.args.new.load c.args.book.now _ _ _ c.load_in.ensures c.in-Ok.ensures.accepted c.go_on.ensures.ended
