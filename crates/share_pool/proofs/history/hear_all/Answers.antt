use Rattle.std.proofs.Common.{rules, ◌∙◌, ℕ, List, slice_index_or, slice_set, subst, sym, ap}
use lib.Seq.{set-get_or}
use Rattle.share_pool.specs.declared.desk.Desk.{Desk}
use Rattle.share_pool.specs.Desks.{HasPass}
use Rattle.share_pool.specs.OneHistory.{HasSeenUpTo}
use Rattle.share_pool.proofs.Histories.{each_next, heard_more}
use Rattle.share_pool.proofs.history.hear_all.Goals as goal

pub hear_at-requires-clause-cell : goal.hear_at-requires-clause-cell
hear_at-requires-clause-cell g c = c.loop-i.invariant.cell ∙ c.requires.cell.0

pub hear_at-requires-clause-desk : goal.hear_at-requires-clause-desk
hear_at-requires-clause-desk g c =
    let i : ℕ = c.loop-i.i in
    let d = c.index-desks-i.result in
    subst (λ (z : List (Desk _ _ _ _)). HasPass c.args.hub.now (slice_index_or z i d).pass) (sym c.loop-i.invariant.same) (c.requires.cell.1 i d (search rules))

pub loop-i-preserved : goal.loop-i-preserved
loop-i-preserved g c =
    let h = c.loop-i.invariant in
    let r = c.hear_at.ensures in
    let i : ℕ = c.loop-i.i in
    let d = c.index-desks-i.result in
    record {
      same = ap (slice_set c.loop-i.desks i) r.same.1 ∙ (set-get_or c.loop-i.desks i d ∙ h.same);
      cell = r.same.0 ∙ h.cell;
      heard = each_next (λ (x : Desk _ _ _ _). HasSeenUpTo c.loop-i.note.seen x.pass) (λ (x : Desk _ _ _ _). HasSeenUpTo c.hear_at.new.note.seen x.pass) c.args.desks.now i d (search rules) h.heard
          (λ x was. heard_more x.pass c.loop-i.note.seen c.hear_at.new.note.seen r.seen was)
          (subst (λ (z : List (Desk _ _ _ _)). HasSeenUpTo c.hear_at.new.note.seen (slice_index_or z i d).pass) h.same r.heard);
    }
