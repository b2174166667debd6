use Rattle.std.proofs.Common.{rules, ◌∙◌, ℕ, List, slice_index_or, slice_set, subst, sym, ap}
use lib.Seq.{set-get_or}
use Rattle.std.specs.Option.{IsSomeAnd}
use Rattle.turn_cell.specs.Passes.{NoteView}
use Rattle.share_pool.specs.declared.desk.Desk.{Desk}
use Rattle.share_pool.specs.Desks.{HasPass}
use Rattle.share_pool.specs.OneHistory.{HasSeenUpTo, OwnIn}
use Rattle.share_pool.proofs.Histories.{each_next}
use Rattle.share_pool.proofs.history.check_all.Goals as goal

pub check_at-requires-clause-cell : goal.check_at-requires-clause-cell
check_at-requires-clause-cell g c = ap (λ (n : NoteView _). n.cell) c.loop-i.invariant.note ∙ c.requires.cell.0

pub check_at-requires-clause-desk : goal.check_at-requires-clause-desk
check_at-requires-clause-desk g c =
    let i : ℕ = c.loop-i.i in
    let d = c.index-desks-i.result in
    subst (λ (z : List (Desk _ _ _ _)). HasPass c.args.hub.now (slice_index_or z i d).pass) (sym c.loop-i.invariant.same) (c.requires.cell.1 i d (search rules))

pub check_at-requires-clause-seen : goal.check_at-requires-clause-seen
check_at-requires-clause-seen g c =
    let h = c.loop-i.invariant in
    let i : ℕ = c.loop-i.i in
    let d = c.index-desks-i.result in
    subst (λ (n : NoteView _). HasSeenUpTo n.seen (slice_index_or c.loop-i.desks i d).pass) (sym h.note)
    (subst (λ (z : List (Desk _ _ _ _)). HasSeenUpTo c.args.note.now.seen (slice_index_or z i d).pass) (sym h.same) (c.requires.seen i d (search rules)))

pub loop-i-preserved : goal.loop-i-preserved
loop-i-preserved g c =
    let h = c.loop-i.invariant in
    let r = c.check_at.ensures in
    let i : ℕ = c.loop-i.i in
    let d = c.index-desks-i.result in
    let P : Desk _ _ _ _ → Type 0 = λ x. IsSomeAnd x.pass (OwnIn c.args.note.now.seen) in
    record {
      same = ap (slice_set c.loop-i.desks i) r.same.1 ∙ (set-get_or c.loop-i.desks i d ∙ h.same);
      note = r.same.0 ∙ h.note;
      checked = each_next P P c.args.desks.now i d (search rules) h.checked (λ x was. was)
          (subst (λ (z : List (Desk _ _ _ _)). P (slice_index_or z i d)) h.same
          (subst (λ (n : NoteView _). IsSomeAnd (slice_index_or c.loop-i.desks i d).pass (OwnIn n.seen)) h.note r.own));
    }
