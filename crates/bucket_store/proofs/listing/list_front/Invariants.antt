use Rattle.bucket_store.specs.Sides.{Known, told_of}
use Rattle.bucket_store.proofs.Paging.{Reaches}
use Rattle.bucket_store.proofs.listing.list_front.Given as goal

-- the pages that came so far, with their names
abbrev pub invariant-loop-turn : goal.invariant-loop-turn
invariant-loop-turn g l = record {
  told : Known (told_of g.V.Link.coming g.V.Link.closed g.C.Clock.coming l.initial.road) (told_of g.V.Link.coming g.V.Link.closed g.C.Clock.coming l.road) (Reaches l.fn.place l.fn.front l.token l.segments.items);
}
