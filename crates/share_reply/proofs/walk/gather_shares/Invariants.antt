use Rattle.std.proofs.Common.{drop, map}
use Rattle.std.specs.Prelude.{filter}
use Rattle.share_reply.specs.Lists.{is_behind, one}
use Rattle.share_reply.specs.Walks.{GoesOn}
use Rattle.share_reply.proofs.walk.gather_shares.Given as goal

-- what is gathered, and the shares behind
abbrev pub invariant-loop-share : goal.invariant-loop-share
invariant-loop-share l =
    GoesOn l.range.most (filter (is_behind l.range.kind l.range.after.now) (map one l.shares))
    (filter (is_behind l.range.kind l.range.after.now) (map one (drop l.share-index l.shares))) l.names.items
