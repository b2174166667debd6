use Rattle.std.proofs.Common.{◌≡◌, map}
use Rattle.share_catalog.specs.HeldMaps.{maps_of}
use Rattle.share_catalog.specs.Kept.{kept_table}
use Rattle.share_catalog.specs.Listed.{whole_entry, whole_run}
use Rattle.share_catalog.specs.Listing.{ListsBindings}
use Rattle.share_catalog.specs.Maps.{share_in}
use Rattle.share_catalog.proofs.ListingLemmas.{lists_bindings, weaker}
use Rattle.share_catalog.proofs.catalog.Catalog.bindings_of.Goals as goal

pub returns : goal.returns
returns c =
    let m = maps_of c.self.inside.held in
    let s = c.args.share.now in
    rw (← c.self.view_is)
    (weaker c.bindings_of.result (λ v. map whole_entry v.items ≡ whole_run s (kept_table (share_in m s)) m.tables) (λ v. ListsBindings c.self.inside.past s v.items)
    (λ v is. lists_bindings m c.self.inside.past s v.items c.self.invariant.fits is) c.bindings_of.ensures)
