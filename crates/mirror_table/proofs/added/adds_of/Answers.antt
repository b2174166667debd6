use Rattle.std.proofs.Common.{◌≡◌, ◌∙◌, ◌++◌, ◌∷◌, [], Some, ap, map, sym}
use Rattle.std.specs.Prelude.{option_map}
use Rattle.std.proofs.lemmas.List.{map-append}
use Rattle.mirror_table.specs.Added.{added}
use Rattle.mirror_table.proofs.Adding.{added_more, still_adds}
use Rattle.mirror_table.proofs.added.adds_of.Goals as goal

pub loop-file-preserved : goal.loop-file-preserved
loop-file-preserved c =
    let files = c.args.files.now in
    let i = c.loop-file.file-index in
    let f = c.file-item.result in
    let a = c.in-Some.add.now in
    let adds : Some a ≡ added f = sym (ap (option_map (λ f. f.now)) c.in-Some.is) ∙ c.added.ensures in
    record {
      adds = ap (map (λ f. f.now)) c.in_ok-push-in-Some.ensures.items ∙ map-append (λ f. f.now) c.loop-file.adds.items (c.in-Some.add ∷ []) ∙ ap (λ l. l ++ a ∷ []) c.loop-file.invariant.adds
          ∙ sym (added_more files i f a c.loop-file-test.true c.file-item.is adds);
      each = still_adds files i f a c.loop-file-test.true c.file-item.is adds c.loop-file.invariant.each;
    }
