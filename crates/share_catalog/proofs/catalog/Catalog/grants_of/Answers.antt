use Rattle.std.proofs.Common.{◌≡◌, map}
use Rattle.share_catalog.specs.HeldMaps.{maps_of}
use Rattle.share_catalog.specs.Kept.{kept_grant}
use Rattle.share_catalog.specs.Listed.{grant_entry, run}
use Rattle.share_catalog.specs.Listing.{ListsGrants}
use Rattle.share_catalog.specs.Maps.{recipient_in}
use Rattle.share_catalog.proofs.ListingLemmas.{lists_grants, weaker}
use Rattle.share_catalog.proofs.catalog.Catalog.grants_of.Goals as goal

pub returns : goal.returns
returns c =
    let m = maps_of c.self.inside.held in
    let r = c.args.recipient.now in
    rw (← c.self.view_is)
    (weaker c.grants_of.result (λ v. map grant_entry v.items ≡ run r (kept_grant m (recipient_in m r)) m.grants) (λ v. ListsGrants c.self.inside.past r v.items)
    (λ v is. lists_grants m c.self.inside.past r v.items c.self.invariant.fits is) c.grants_of.ensures)
