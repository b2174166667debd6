use Rattle.std.proofs.Common.{◌≡◌, ◌≤◌, length, map, vec_len}
use Rattle.pred_tree.specs.Listing.{passes}
use Rattle.pred_tree.specs.Shown.{shown_in}
use Rattle.share_reply.proofs.Cutting.{IsWithin}
use Rattle.share_reply.proofs.ShownWalk.{Seen}
use Rattle.share_reply.proofs.shown.shown_cut.Given as goal

abbrev pub invariant-loop-at : goal.invariant-loop-at
invariant-loop-at l = record {
  end : l.at-end ≡ length l.snapshot.files;
  seen : Seen (shown_in l.shown) (passes l.listing) l.place l.at l.snapshot.files (map (λ f. f.now) l.files.items) l.next l.seen;
  within : IsWithin l.most (vec_len l.files);
  few : l.seen ≤ l.at;
}
