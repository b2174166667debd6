use Rattle.std.proofs.Common.{◌≡◌, length, map, vec_len}
use Rattle.pred_tree.specs.Listing.{passes}
use Rattle.share_reply.proofs.Cutting.{Walked, IsWithin}
use Rattle.share_reply.proofs.cut.files_cut.Given as goal

abbrev pub invariant-loop-at : goal.invariant-loop-at
invariant-loop-at l = record {
  end : l.at-end ≡ length l.shown;
  walked : Walked (passes l.listing) l.place l.at l.shown (map (λ f. f.now) l.files.items) l.next;
  within : IsWithin l.most (vec_len l.files);
}
