use Rattle.std.proofs.Common.{◌∙◌, ap, option_map, bytes_eq, refl}
use Rattle.std.proofs.lemmas.Map.Text.{btree_map_updates_str}
use Rattle.log_replay.proofs.MapLemmas.{changed}
use Rattle.mirror_table.proofs.wanted.put.Goals as goal

pub returns : goal.returns
returns c = λ q.
    ap (option_map (λ f. f.now)) (btree_map_updates_str c.as_str.result.now c.args.by_path.now c.insert.new.self _ c.in_ok-insert.ensures.updates q)
    ∙ changed (bytes_eq c.as_str.result.now q) _ _
    ∙ rw c.as_str.ensures refl
