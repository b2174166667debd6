use Rattle.std.proofs.Common.{ℕ, List, ◌≡◌, false, bytes_eq, subst}
use Rattle.std.specs.Prelude.{◌||◌}
use Rattle.std.specs.Option.{option_map_or}
use Rattle.std.proofs.lemmas.Map.Text.{btree_map_updates_str}
use Rattle.log_commit.specs.Passes.{holds}
use Rattle.log_commit.proofs.Distinct.{puts}
use Rattle.log_commit.proofs.rules.put_path.Goals as goal

pub returns-in_ok-insert-in-Some-clause-put : goal.returns-in_ok-insert-in-Some-clause-put
returns-in_ok-insert-in-Some-clause-put c =
    subst (λ o. (q : List ℕ) → holds c.insert.new.self q ≡ (option_map_or (λ path. bytes_eq path q) o false || holds c.args.paths.now q)) c.in-Some.ensures
    (λ q. puts c.in-Some.path.now q c.args.paths.now c.insert.new.self (btree_map_updates_str c.in-Some.path.now c.args.paths.now c.insert.new.self _ c.in_ok-insert-in-Some.ensures.updates q))
