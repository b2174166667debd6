use Rattle.std.proofs.lemmas.Map.Text.{btree_map_updates_str}
use Rattle.log_commit.proofs.Distinct.{puts}
use Rattle.commit_check.proofs.offered.put.Goals as goal

pub returns-in_ok-insert : goal.returns-in_ok-insert
returns-in_ok-insert c =
    rw c.in-Some.is (λ q. puts c.in-Some.text.now q c.args.texts.now c.insert.new.self (btree_map_updates_str c.in-Some.text.now c.args.texts.now c.insert.new.self _ c.in_ok-insert.ensures.updates q))
