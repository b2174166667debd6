use Rattle.std.proofs.Common.{◌∙◌, List, None, ap, subst}
use Rattle.std.specs.Prelude.{IfOk, filter}
use Rattle.share_catalog.specs.declared.table_name.TableName.{TableName}
use Rattle.share_reply.specs.Lists.{Names, is_behind}
use Rattle.share_reply.specs.Walks.{IsGathered, added}
use Rattle.share_reply.proofs.WalkLemmas.{schemas_added}
use Rattle.share_reply.proofs.lists.gather_names.Goals as goal

pub returns-in-Schemas : goal.returns-in-Schemas
returns-in-Schemas c =
    let r = c.args.range.now in
    let P : Names → Type 0 = λ names. IfOk c.gather_tables.result (IsGathered r.most (filter (is_behind r.kind r.after.now) names)) in
    subst P
    (ap (λ (ts : List TableName). added r.kind r.share.now r.schema.now None ts) c.tables.ensures ∙ schemas_added r.kind r.share.now r.schema.now c.args.names.now c.in-Schemas.is)
    c.gather_tables.ensures
