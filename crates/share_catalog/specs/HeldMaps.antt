-- The lists of entries as they are held.
use Rattle.std.specs.Prelude.{◌<◌, vec_len}
use Rattle.std.specs.Vec.{vec_capacity}
use Rattle.share_catalog.specs.declared.held.Held.{Held}
use Rattle.share_catalog.specs.Entries.{entries, pair_texts}
use Rattle.share_catalog.specs.Maps.{Maps}
use Rattle.share_catalog.specs.TableNames.{parts_of}

abbrev pub maps_of : Held → Maps
maps_of h = record {
  shares = entries (λ k. k) h.shares.items;
  recipients = entries (λ k. k) h.recipients.items;
  tables = entries parts_of h.tables.items;
  grants = entries pair_texts h.grants.items;
  holders = entries (λ k. k) h.holders.items;
  locations = h.locations.items;
}

-- each list has room for one entry more
pub record HasRoom (h : Held) : Type 0 where
  pub shares : vec_len h.shares < vec_capacity h.shares
  pub recipients : vec_len h.recipients < vec_capacity h.recipients
  pub tables : vec_len h.tables < vec_capacity h.tables
  pub grants : vec_len h.grants < vec_capacity h.grants
  pub holders : vec_len h.holders < vec_capacity h.holders
  pub locations : vec_len h.locations < vec_capacity h.locations
