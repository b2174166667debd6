use Rattle.std.proofs.Common.{◌≡◌, ◌∙◌, ap, cond, sym, Some, codes, bytes_eq}
use Rattle.std.proofs.lemmas.Map.Text.{btree_map_updates_str}
use Rattle.serde_json.specs.View.{view}
use Rattle.part_values.specs.Columns.{text_in}
use Rattle.part_values.specs.Kinds.{kind_at}
use Rattle.part_values.proofs.FirstKinds.{puts}
use Rattle.part_values.proofs.columns.put.Goals as goal

pub returns-in_ok-insert : goal.returns-in_ok-insert
returns-in_ok-insert c = λ q.
    let named : text_in (codes "name") (view c.args.field.now) ≡ Some c.in-Some.name.now = sym c.in-Some.ensures in
    puts c.in-Some.name.now q (view c.args.field.now) c.args.kinds.now c.insert.new.self named (
    btree_map_updates_str c.in-Some.name.now c.args.kinds.now c.insert.new.self _ c.in_ok-insert.ensures.updates q
    ∙ ap (λ k. cond (bytes_eq c.in-Some.name.now q) (Some k) (kind_at c.args.kinds.now q)) c.kind_of.ensures)
