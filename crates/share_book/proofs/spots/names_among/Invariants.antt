use Rattle.std.proofs.Common.{◌≡◌, map, take}
use Rattle.share_catalog.specs.declared.listing.Granted.{Granted}
use Rattle.share_book.specs.Looked.{tables_of_grants}
use Rattle.share_book.proofs.spots.names_among.Given as goal

abbrev pub invariant-loop-granted : goal.invariant-loop-granted
invariant-loop-granted l = (l.shares.items ≡ map (λ (g : Granted). g.share.now) (take l.granted-index l.grants)) × (l.tables.items ≡ tables_of_grants l.catalog.edits (take l.granted-index l.grants))
