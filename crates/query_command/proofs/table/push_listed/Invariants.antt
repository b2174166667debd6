use Rattle.std.proofs.Common.{◌≡◌, ◌++◌, flat_map, length, take}
use Rattle.std.specs.Prelude.{filter}
use Rattle.share_lines.specs.Lines.{file_line}
use Rattle.pred_tree.specs.Listing.{passes}
use Rattle.query_command.proofs.table.push_listed.Given as goal

abbrev pub invariant-loop-place : goal.invariant-loop-place
invariant-loop-place l = record {
  end : l.place-end ≡ length l.snapshot.files;
  lines : l.out.items ≡ l.fn.out.items ++ flat_map file_line (filter (passes l.listing) (take l.place l.snapshot.files));
}
