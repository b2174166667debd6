use Rattle.std.proofs.Common.{map, refl}
use Rattle.std.specs.Prelude.{filter}
use Rattle.share_reply.specs.Lists.{Names, is_behind, one}
use Rattle.share_reply.proofs.WalkLemmas.{cut_page, shares_full, shares_on}
use Rattle.share_reply.proofs.walk.gather_shares.Goals as goal

pub loop-share-preserved : goal.loop-share-preserved
loop-share-preserved c =
    let k = c.args.range.now.kind in
    let after = c.args.range.now.after.now in
    let all : Names = filter (is_behind k after) (map one c.args.shares.now) in
    shares_on k after c.args.shares.now c.loop-share.share-index c.share-item.result c.args.range.now.most all c.loop-share.names.items c.take_in.new.names.items _
    c.loop-share-test.true c.share-item.is c.in_ok-take_in.ensures c.if-branch.false c.loop-share.invariant

pub returns-then-branch : goal.returns-then-branch
returns-then-branch c =
    let k = c.args.range.now.kind in
    let after = c.args.range.now.after.now in
    let all : Names = filter (is_behind k after) (map one c.args.shares.now) in
    cut_page c.args.range.now.most all _ c.take_in.new.names.items
    (shares_full k after c.args.shares.now c.loop-share.share-index c.share-item.result c.args.range.now.most all c.loop-share.names.items c.take_in.new.names.items _
    c.loop-share-test.true c.share-item.is c.in_ok-take_in.ensures c.if-branch.true c.loop-share.invariant) refl refl
