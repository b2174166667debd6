-- What is known of the offer's actions.
use Rattle.std.specs.Prelude.{◌≡◌, ℕ, List, bytes_eq}
use Rattle.std.specs.List.{list_any}
use Rattle.log_actions.specs.declared.actions.Action.{Action}
use Rattle.log_commit.specs.Passes.{holds}
use Rattle.commit_check.specs.Lookups.{puts_one}
use Rattle.commit_check.specs.Offers.{added_path, app_of, apps_of, paths_added, paths_removed, removed_path}
use Rattle.commit_check.specs.declared.offered.Offered.{Offered}

-- one action more is known
pub record Records (old new : Offered) (a : Action) : Type 0 where
  pub added : (q : List ℕ) → holds new.added q ≡ puts_one old.added (added_path a) q
  pub removed : (q : List ℕ) → holds new.removed q ≡ puts_one old.removed (removed_path a) q
  pub apps : (q : List ℕ) → holds new.apps q ≡ puts_one old.apps (app_of a) q

-- what is known is that of these actions
pub record Knows (o : Offered) (actions : List Action) : Type 0 where
  pub added : (q : List ℕ) → holds o.added q ≡ list_any (bytes_eq q) (paths_added actions)
  pub removed : (q : List ℕ) → holds o.removed q ≡ list_any (bytes_eq q) (paths_removed actions)
  pub apps : (q : List ℕ) → holds o.apps q ≡ list_any (bytes_eq q) (apps_of actions)
