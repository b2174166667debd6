use Rattle.std.proofs.Common.{drop, None}
use Rattle.std.specs.Prelude.{filter, option_copied}
use Rattle.share_reply.specs.Lists.{is_behind}
use Rattle.share_reply.specs.Walks.{GoesOn, added}
use Rattle.share_reply.proofs.walk.gather_tables.Given as goal

-- what is gathered, and what the tables behind add
abbrev pub invariant-loop-table : goal.invariant-loop-table
invariant-loop-table l =
    GoesOn l.range.most (filter (is_behind l.range.kind l.range.after.now) (added l.range.kind l.range.share.now l.range.schema.now None l.tables))
    (filter (is_behind l.range.kind l.range.after.now) (added l.range.kind l.range.share.now l.range.schema.now (option_copied l.before) (drop l.table-index l.tables))) l.names.items
