use Rattle.std.proofs.Common.{◌++◌, ◌∷◌, [], ◌∙◌, ap, sym, append_assoc, flat_map}
use Rattle.std.specs.Prelude.{filter}
use Rattle.share_lines.specs.Lines.{file_line}
use Rattle.pred_tree.specs.Listing.{passes}
use Rattle.query_command.proofs.Files.{listed-take-one}
use Rattle.query_command.proofs.table.push_listed.Goals as goal

pub loop-place-preserved : goal.loop-place-preserved
loop-place-preserved c =
    let listing = c.args.listing.now in
    let more = listed-take-one file_line (passes listing) c.args.snapshot.now.files c.loop-place.place c.file.result.now c.file.ensures in
    let before = c.args.out.now.items in
    record {
      end = c.loop-place.invariant.end;
      lines = c.in_ok-push_if_listed.ensures ∙ ap (λ s. s ++ flat_map file_line (filter (passes listing) (c.file.result.now ∷ []))) c.loop-place.invariant.lines ∙ append_assoc before _ _ ∙ ap (λ s. before ++ s) (sym more);
    }
