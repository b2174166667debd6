use Rattle.std.proofs.Common.{◌<◌, length, arith}
use Rattle.share_request.proofs.FormatParts.{first_behind, first_here}
use Rattle.share_request.proofs.capability.part_in.Goals as goal

pub returns-in-Some : goal.returns-in-Some
returns-in-Some c =
    let less = c.loop-index-test.true in
    let end = c.len-index-end.ensures in
    let within : c.loop-index.index < length c.args.fields.now = omega arith in
    first_here c.args.fields.now c.loop-index.index within c.loop-index.invariant c.in-Some.part.now c.in-Some.ensures

pub loop-index-preserved : goal.loop-index-preserved
loop-index-preserved c =
    let less = c.loop-index-test.true in
    let end = c.len-index-end.ensures in
    let within : c.loop-index.index < length c.args.fields.now = omega arith in
    first_behind c.args.fields.now c.loop-index.index within c.loop-index.invariant c.in_default.ensures
