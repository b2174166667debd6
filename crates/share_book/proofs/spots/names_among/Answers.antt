use Rattle.std.proofs.Common.{List, map, ap, ◌∙◌}
use Rattle.share_catalog.specs.declared.listing.Bound.{Bound}
use Rattle.share_book.specs.Looked.{tables_in}
use Rattle.share_book.proofs.Listed.{share_tables, shares_more, tables_more}
use Rattle.share_book.proofs.spots.names_among.Goals as goal

pub loop-granted-preserved : goal.loop-granted-preserved
loop-granted-preserved c =
    let es = c.args.catalog.now.edits in
    let gs = c.args.grants.now in
    let i = c.loop-granted.granted-index in
    let g = c.granted-item.result in
    let before = c.loop-granted.invariant in
    let bound = ap (λ (bs : List Bound). map (λ (b : Bound). b.table.now) bs) c.deref.ensures.value ∙ share_tables es c.as_str.result.now c.in_ok-bindings.bindings.items c.in_ok-bindings.ensures ∙ ap (tables_in es) c.as_str.ensures.value in (
      c.in_ok-push.ensures.items ∙ shares_more gs i g c.loop-granted.shares.items c.in_ok-copy.field-0 c.loop-granted-test.true c.granted-item.is before.0 c.in_ok-copy.ensures,
      c.in_ok-push_tables.ensures ∙ tables_more es gs i g c.loop-granted.tables.items (map (λ (b : Bound). b.table.now) c.deref.result.now) c.loop-granted-test.true c.granted-item.is before.1 bound,
    )
