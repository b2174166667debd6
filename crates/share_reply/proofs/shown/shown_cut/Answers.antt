use Rattle.std.proofs.Common.{◌≡◌, ◌+◌, ◌++◌, ◌∷◌, [], map, sym, ap, ◌∙◌, subst, vec_len, arith}
use Rattle.std.proofs.lemmas.List.{length-map, map-append}
use Rattle.pred_tree.specs.Listing.{passes}
use Rattle.pred_tree.specs.Shown.{shown_in}
use Rattle.share_reply.specs.Cuts.{is_full}
use Rattle.share_reply.proofs.Cutting.{IsWithin, within_next}
use Rattle.share_reply.proofs.ShownWalk.{Seen, seen_before, seen_full, seen_hidden, seen_over, seen_takes}
use Rattle.share_reply.proofs.shown.shown_cut.Goals as goal
use Rattle.share_reply.proofs.shown.shown_cut.Goals.{then-shows, then-seen-place+then-lists+else-is_full+in_ok-push, else-seen-place, else-seen-place-via-then-seen-place+else-lists, else-seen-place-via-else-seen-place, else-shows}

pub returns-then-is_full : goal.returns-then-is_full
returns-then-is_full c =
    let items = c.loop-at.files.items in
    let count = length-map items (λ f. f.now) ∙ sym c.loop-at.files.ok.0 in
    let full = ap (λ n. is_full n c.args.most) (count ∙ sym c.len.ensures) ∙ sym c.is_full.ensures ∙ c.if-is_full.true in
    let within = subst (IsWithin c.args.most) (sym count) c.loop-at.invariant.within in
    seen_full (shown_in c.args.shown.now) (passes c.args.listing.now) c.args.place c.loop-at.at c.args.snapshot.now.files (map (λ f. f.now) items) c.loop-at.next c.loop-at.seen c.args.most c.file-file.result.now c.loop-at.invariant.seen c.file-file.ensures
    (sym c.shows.ensures ∙ c.if-shows.true) (omega (arith, c.if-seen-place.true)) (sym c.lists.ensures ∙ c.if-lists.true) full within

pub loop-at-preserved : goal.loop-at-preserved
loop-at-preserved c =
    let s = shown_in c.args.shown.now in
    let t = passes c.args.listing.now in
    let xs = c.args.snapshot.now.files in
    let at = c.loop-at.at in
    let x = c.file-file.result.now in
    let old = c.loop-at.invariant.seen in
    let ys = map (λ f. f.now) c.loop-at.files.items in
    let n = c.loop-at.next in
    let k = c.loop-at.seen in
    let place = c.args.place in
    let low = c.loop-at.invariant.few in
    elim c.if-shows.branch [
      | then-shows w ↦
          let shown = sym c.shows.ensures ∙ w.if-shows.true in
          elim w.if-seen-place.branch [
            | then-seen-place+then-lists+else-is_full+in_ok-push v ↦
                let taken = seen_takes s t place at xs ys n k x old c.file-file.ensures shown (omega (arith, v.if-seen-place.true)) (sym v.lists.ensures ∙ v.if-lists.true) in
                let files : map (λ f. f.now) c.if-shows.files.items ≡ ys ++ (x ∷ []) =
                ap (λ v. map (λ f. f.now) v.items) (w.files-is ∙ v.files-is) ∙ ap (map (λ f. f.now)) v.in_ok-push.ensures.items ∙ map-append (λ f. f.now) c.loop-at.files.items (c.file-file.result ∷ []) in
                let next = w.next-is ∙ v.next-is in
                record {
                  end = c.loop-at.invariant.end;
                  seen = subst (λ m. Seen s t place (at + 1) xs (map (λ f. f.now) c.if-shows.files.items) c.if-shows.next m) (sym w.seen-is) (subst (λ m. Seen s t place (at + 1) xs (map (λ f. f.now) c.if-shows.files.items) m (k + 1)) (sym next) (subst (λ zs. Seen s t place (at + 1) xs zs (k + 1) (k + 1)) (sym files) taken));
                  within = subst (IsWithin c.args.most) (sym (ap (λ f. vec_len f) (w.files-is ∙ v.files-is) ∙ v.in_ok-push.ensures.len)) (within_next c.args.most (vec_len c.loop-at.files) (ap (λ m. is_full m c.args.most) (sym v.len.ensures) ∙ sym v.is_full.ensures ∙ v.if-is_full.false));
                  few = omega (arith, w.seen-is, low);
                }
            | else-seen-place v ↦
                let next = w.next-is ∙ v.next-is in
                let moved = λ (q : Seen s t place (at + 1) xs ys n (k + 1)). subst (λ m. Seen s t place (at + 1) xs (map (λ f. f.now) c.if-shows.files.items) c.if-shows.next m) (sym w.seen-is) (subst (λ m. Seen s t place (at + 1) xs (map (λ f. f.now) c.if-shows.files.items) m (k + 1)) (sym next) (subst (λ f. Seen s t place (at + 1) xs (map (λ g. g.now) f.items) n (k + 1)) (sym (w.files-is ∙ v.files-is)) q)) in
                record {
                  end = c.loop-at.invariant.end;
                  seen = elim v.else-seen-place.branch [
                    | else-seen-place-via-then-seen-place+else-lists u ↦ moved (seen_over s t place at xs ys n k x old c.file-file.ensures shown (omega (arith, u.if-seen-place.true)) (sym u.lists.ensures ∙ u.if-lists.false))
                    | else-seen-place-via-else-seen-place u ↦ moved (seen_before s t place at xs ys n k x old c.file-file.ensures shown (omega (arith, u.if-seen-place.false)))
                  ];
                  within = subst (λ f. IsWithin c.args.most (vec_len f)) (sym (w.files-is ∙ v.files-is)) c.loop-at.invariant.within;
                  few = omega (arith, w.seen-is, low);
                }
          ]
      | else-shows w ↦
          record {
            end = c.loop-at.invariant.end;
            seen = subst (λ m. Seen s t place (at + 1) xs (map (λ f. f.now) c.if-shows.files.items) c.if-shows.next m) (sym w.seen-is) (subst (λ m. Seen s t place (at + 1) xs (map (λ f. f.now) c.if-shows.files.items) m k) (sym w.next-is) (subst (λ f. Seen s t place (at + 1) xs (map (λ g. g.now) f.items) n k) (sym w.files-is) (seen_hidden s t place at xs ys n k x old c.file-file.ensures (sym c.shows.ensures ∙ w.if-shows.false))));
            within = subst (λ f. IsWithin c.args.most (vec_len f)) (sym w.files-is) c.loop-at.invariant.within;
            few = omega (arith, w.seen-is, low);
          }
    ]
