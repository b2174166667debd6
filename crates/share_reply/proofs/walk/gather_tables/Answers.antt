use Rattle.std.proofs.Common.{None, refl}
use Rattle.std.specs.Prelude.{filter, option_copied, option_map}
use Rattle.share_reply.specs.Lists.{Names, is_behind}
use Rattle.share_reply.specs.Walks.{added, texts_of}
use Rattle.share_reply.proofs.WalkLemmas.{cut_page, tables_full, tables_on}
use Rattle.share_reply.proofs.walk.gather_tables.Goals as goal

pub loop-table-preserved : goal.loop-table-preserved
loop-table-preserved c =
    let r = c.args.range.now in
    let all : Names = filter (is_behind r.kind r.after.now) (added r.kind r.share.now r.schema.now None c.args.tables.now) in
    tables_on r.kind r.share.now r.schema.now r.after.now (option_copied c.loop-table.before) (option_copied c.schema_behind-before.result) c.args.tables.now c.loop-table.table-index c.table-item.result
    (option_map texts_of c.name_added.result) r.most all c.loop-table.names.items c.take_in.new.names.items _
    c.loop-table-test.true c.table-item.is c.name_added.ensures c.schema_behind-before.ensures c.in_ok-take_in.ensures c.if-branch.false c.loop-table.invariant

pub returns-then-branch : goal.returns-then-branch
returns-then-branch c =
    let r = c.args.range.now in
    let all : Names = filter (is_behind r.kind r.after.now) (added r.kind r.share.now r.schema.now None c.args.tables.now) in
    cut_page r.most all _ c.take_in.new.names.items
    (tables_full r.kind r.share.now r.schema.now r.after.now (option_copied c.loop-table.before) c.args.tables.now c.loop-table.table-index c.table-item.result
    (option_map texts_of c.name_added.result) r.most all c.loop-table.names.items c.take_in.new.names.items _
    c.loop-table-test.true c.table-item.is c.name_added.ensures c.in_ok-take_in.ensures c.if-branch.true c.loop-table.invariant) refl refl
