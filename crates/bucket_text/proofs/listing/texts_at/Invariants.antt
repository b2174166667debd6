use Rattle.std.proofs.Common.{◌≡◌, map, take}
use Rattle.bucket_text.specs.Listings.{texts_at}
use Rattle.bucket_text.proofs.listing.texts_at.Given as goal

-- the texts so far
abbrev pub invariant-loop-element : goal.invariant-loop-element
invariant-loop-element l = map (λ x. x.now) l.texts.items ≡ texts_at l.fn.path (take l.element-index l.elements)
