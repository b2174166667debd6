use Rattle.std.proofs.lemmas.Map.Text.{btree_map_updates_str}
use Rattle.log_commit.proofs.Distinct.{puts}
use Rattle.mirror_table.proofs.suits.put.Goals as goal

pub returns-clause-put : goal.returns-clause-put
returns-clause-put c = λ q.
    puts c.args.text.now q c.args.seen.now c.insert.new.self (btree_map_updates_str c.args.text.now c.args.seen.now c.insert.new.self _ c.in_ok-insert.ensures.updates q)
