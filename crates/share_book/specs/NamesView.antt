-- What contracts see of the names that a recipient sees.
use Rattle.std.specs.Prelude.{ℕ, List}
use Rattle.share_catalog.specs.declared.table_name.TableName.{TableName}

-- the shares, and the tables of all of them, each in byte order
pub record NamesView : Type 0 where
  pub shares : List (List ℕ)
  pub tables : List TableName
