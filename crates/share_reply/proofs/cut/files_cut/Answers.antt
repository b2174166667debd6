use Rattle.std.proofs.Common.{◌≡◌, ◌+◌, ◌++◌, ◌∷◌, [], map, sym, ap, ◌∙◌, subst, vec_len}
use Rattle.std.proofs.lemmas.List.{length-map, map-append}
use Rattle.pred_tree.specs.Listing.{passes}
use Rattle.share_reply.specs.Cuts.{is_full}
use Rattle.share_reply.proofs.Cutting.{IsWithin, Walked, walk_is_full, walk_passes_over, walk_takes, within_next}
use Rattle.share_reply.proofs.cut.files_cut.Goals as goal
use Rattle.share_reply.proofs.cut.files_cut.Goals.{then-lists+else-is_full+in_ok-push, else-lists}

pub returns-then-is_full-clause-files : goal.returns-then-is_full-clause-files
returns-then-is_full-clause-files c =
    let items = c.loop-at.files.items in
    let count = length-map items (λ f. f.now) ∙ sym c.loop-at.files.ok.0 in
    let full = ap (λ n. is_full n c.args.most) (count ∙ sym c.len.ensures) ∙ sym c.is_full.ensures ∙ c.if-is_full.true in
    let within = subst (IsWithin c.args.most) (sym count) c.loop-at.invariant.within in
    (walk_is_full (passes c.args.listing.now) c.args.place c.loop-at.at c.args.shown.now _ c.loop-at.next c.args.most c.file-file.result.now c.loop-at.invariant.walked c.loop-at.auto.at c.file-file.ensures (sym c.lists.ensures ∙ c.if-lists.true) full within).0

pub returns-then-is_full-clause-next : goal.returns-then-is_full-clause-next
returns-then-is_full-clause-next c =
    let items = c.loop-at.files.items in
    let count = length-map items (λ f. f.now) ∙ sym c.loop-at.files.ok.0 in
    let full = ap (λ n. is_full n c.args.most) (count ∙ sym c.len.ensures) ∙ sym c.is_full.ensures ∙ c.if-is_full.true in
    let within = subst (IsWithin c.args.most) (sym count) c.loop-at.invariant.within in
    (walk_is_full (passes c.args.listing.now) c.args.place c.loop-at.at c.args.shown.now _ c.loop-at.next c.args.most c.file-file.result.now c.loop-at.invariant.walked c.loop-at.auto.at c.file-file.ensures (sym c.lists.ensures ∙ c.if-lists.true) full within).1

pub loop-at-preserved : goal.loop-at-preserved
loop-at-preserved c =
    let test = passes c.args.listing.now in
    let xs = c.args.shown.now in
    let now = c.file-file.result.now in
    elim c.if-lists.branch [
      | then-lists+else-is_full+in_ok-push w ↦
          let found : map (λ f. f.now) c.if-lists.files.items ≡ map (λ f. f.now) c.loop-at.files.items ++ (now ∷ []) =
          ap (λ v. map (λ f. f.now) v.items) w.files-is ∙ ap (map (λ f. f.now)) w.in_ok-push.ensures.items ∙ map-append (λ f. f.now) c.loop-at.files.items (c.file-file.result ∷ []) in
          let taken = walk_takes test c.args.place c.loop-at.at xs _ c.loop-at.next now c.loop-at.invariant.walked c.loop-at.auto.at c.file-file.ensures (sym c.lists.ensures ∙ w.if-lists.true) in
          let room = within_next c.args.most (vec_len c.loop-at.files) (ap (λ n. is_full n c.args.most) (sym w.len.ensures) ∙ sym w.is_full.ensures ∙ w.if-is_full.false) in
          record {
            end = c.loop-at.invariant.end;
            walked = subst (λ n. Walked test c.args.place (c.loop-at.at + 1) xs (map (λ f. f.now) c.if-lists.files.items) n) (sym w.next-is) (subst (λ ys. Walked test c.args.place (c.loop-at.at + 1) xs ys (c.loop-at.at + 1)) (sym found) taken);
            within = subst (IsWithin c.args.most) (sym (ap (λ v. vec_len v) w.files-is ∙ w.in_ok-push.ensures.len)) room;
          }
      | else-lists w ↦
          let over = walk_passes_over test c.args.place c.loop-at.at xs _ c.loop-at.next now c.loop-at.invariant.walked c.loop-at.auto.at c.file-file.ensures (sym c.lists.ensures ∙ w.if-lists.false) in
          record {
            end = c.loop-at.invariant.end;
            walked = subst (λ n. Walked test c.args.place (c.loop-at.at + 1) xs (map (λ f. f.now) c.if-lists.files.items) n) (sym w.next-is) (subst (λ v. Walked test c.args.place (c.loop-at.at + 1) xs (map (λ f. f.now) v.items) c.loop-at.next) (sym w.files-is) over);
            within = subst (λ v. IsWithin c.args.most (vec_len v)) (sym w.files-is) c.loop-at.invariant.within;
          }
    ]
