use Rattle.std.proofs.Common.{◌+◌, take, arith}
use Rattle.share_client.specs.Listings.{EachEnds, ListsEach, ShareEnds, tables}
use Rattle.share_client.specs.Steps.{OntoAll}
use Rattle.share_client.proofs.Counts.{later_twice}
use Rattle.share_client.proofs.Knowing.{known_as, known_then}
use Rattle.share_client.proofs.Listed.{each_all, each_at, ended_at}
use Rattle.share_client.proofs.lists.list_each.Goals as goal

pub loop-share-preserved : goal.loop-share-preserved
loop-share-preserved g c =
    let l = c.loop-share in
    let server = c.args.server.now in
    let shares = c.args.shares.now in
    let share = c.share-item.result in
    let now = c.list_share.new.found.items in
    record {
      later = later_twice _ _ _ l.invariant.later c.list_share.ensures.later;
      told =
          known_then g.L.Link.coming g.L.Link.closed c.args.link.now l.link c.list_share.new.link
          (ListsEach server (take l.share-index shares) l.found.items)
          (OntoAll (tables server share) l.found.items now)
          (ListsEach server (take (l.share-index + 1) shares) now)
          (λ s t u a b. each_at server shares l.share-index share l.found.items now s t u (omega arith) c.share-item.is a b)
          l.invariant.told c.in-Ok.ensures.told;
    }

pub returns-in-Err-clause-told : goal.returns-in-Err-clause-told
returns-in-Err-clause-told g c =
    let l = c.loop-share in
    let server = c.args.server.now in
    let shares = c.args.shares.now in
    let share = c.share-item.result in
    known_then g.L.Link.coming g.L.Link.closed c.args.link.now l.link c.list_share.new.link
    (ListsEach server (take l.share-index shares) l.found.items)
    (ShareEnds server share c.in-Err.fault)
    (EachEnds server shares c.in-Err.fault)
    (λ s t u a b. ended_at server shares l.share-index share l.found.items c.in-Err.fault s t u (omega arith) c.share-item.is a b)
    l.invariant.told c.in-Err.ensures.told

pub returns-clause-told : goal.returns-clause-told
returns-clause-told g c =
    let l = c.loop-share in
    let server = c.args.server.now in
    let shares = c.args.shares.now in
    known_as g.L.Link.coming g.L.Link.closed c.args.link.now l.link
    (ListsEach server (take l.share-index shares) l.found.items)
    (ListsEach server shares l.found.items)
    (λ s t a. each_all server shares l.share-index l.found.items s t (omega arith) a)
    l.invariant.told
