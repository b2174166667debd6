-- What is read of an array, after what was read of its front.
use Rattle.std.proofs.Common.{◌≡◌, List, ◌++◌, Option, option_map}
use Rattle.serde_json.specs.Data.{Data, Items}
use Rattle.share_client.specs.Lists.{all_in}

-- the items that were found stand behind the first ones, and what is read of the rest of the array, behind them, is what is read of all
pub record Onto {X : Type 0} (reads : Data → Option X) (was now : List X) (all rest : Items) : Type 0 where
  pub front : List X
  pub held : now ≡ was ++ front
  pub read : all_in reads all ≡ option_map (λ xs. front ++ xs) (all_in reads rest)
