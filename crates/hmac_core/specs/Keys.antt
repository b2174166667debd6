-- What is kept of a key that is prepared.
use Rattle.std.specs.Prelude.{◌≡◌, ℕ, List, length}
use Rattle.sha2.specs.Hashers.{Holds256}
use Rattle.sha2.specs.declared.Sha256.{Sha256}
use Rattle.hmac_core.specs.Hmac.{padded_with}

-- both hashes have the block with their pads behind them
pub record IsPrepared (inner outer : Sha256) (block : List ℕ) : Type 0 where
  pub size : length block ≡ 64
  pub under_inner_pad : Holds256 inner (padded_with 0x36 block)
  pub under_outer_pad : Holds256 outer (padded_with 0x5C block)
