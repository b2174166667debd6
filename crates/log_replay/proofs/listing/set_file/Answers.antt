use Rattle.std.proofs.Common.{rules, None, ◌≡◌, [], ◌++◌, map, take, drop, length, ap, ◌∙◌, sym, subst, arith}
use Rattle.std.specs.Prelude.{option_map, option_to_list}
use Rattle.std.specs.Arc.{arc_value}
use Rattle.std.proofs.lemmas.Bool.Decides.{nat_tests}
use Rattle.std.proofs.lemmas.List.{nil_from_length}
use Rattle.log_replay.specs.Listing.{IsSpot, SetsPath, listed}
use Rattle.log_replay.proofs.SpotLemmas.{not_some, nothing_set, one_more, own_value, part_read, removed_sized, replaced, set_none, spot_set}
use Rattle.log_replay.proofs.listing.set_file.Goals as goal

pub returns-then-is_empty-clause-listing : goal.returns-then-is_empty-clause-listing
returns-then-is_empty-clause-listing c =
    let none : length c.args.parts.now.items ≡ 0 = grind (arith, nat_tests, c.is_empty.ensures, c.if-is_empty.true) in
    let nil = nil_from_length c.args.parts.now.items none in
    record {
      rise = (set_none c.args.path.now (option_map arc_value c.args.file) (listed c.put_files.new.parts.items) (own_value c.args.file c.args.path.now c.requires.own)
          (c.in_ok-put_files.ensures.files ∙ ap (λ xs. listed (take 0 xs) ++ (map arc_value c.in_ok-files.files.items ++ listed (drop 0 xs))) nil ∙ ap (λ r. r ++ []) c.in_ok-files.ensures)).0;
      sized = c.in_ok-put_files.ensures.sized c.requires.listing.sized;
    }

pub returns-then-is_empty-clause-set : goal.returns-then-is_empty-clause-set
returns-then-is_empty-clause-set c =
    let none : length c.args.parts.now.items ≡ 0 = grind (arith, nat_tests, c.is_empty.ensures, c.if-is_empty.true) in
    let nil = nil_from_length c.args.parts.now.items none in
    subst (λ xs. SetsPath c.args.path.now (option_map arc_value c.args.file) (listed xs) (listed c.put_files.new.parts.items)) (sym nil)
    (set_none c.args.path.now (option_map arc_value c.args.file) (listed c.put_files.new.parts.items) (own_value c.args.file c.args.path.now c.requires.own)
    (c.in_ok-put_files.ensures.files ∙ ap (λ xs. listed (take 0 xs) ++ (map arc_value c.in_ok-files.files.items ++ listed (drop 0 xs))) nil ∙ ap (λ r. r ++ []) c.in_ok-files.ensures)).1

pub returns-then-is_none-clause-set : goal.returns-then-is_none-clause-set
returns-then-is_none-clause-set c =
    let parts = c.args.parts.now.items in
    let spot : IsSpot c.args.path.now parts c.spot_of-spot.result.part c.spot_of-spot.result.at c.spot_of-spot.result.next
    = subst (λ xs. IsSpot c.args.path.now xs c.spot_of-spot.result.part c.spot_of-spot.result.at c.spot_of-spot.result.next) c.deref.ensures.value c.spot_of-spot.ensures in
    let free : c.spot_of-spot.result.at ≡ c.spot_of-spot.result.next = grind (arith, nat_tests, c.if-spot.true) in
    let none : c.args.file ≡ None = search (rules, not_some) in
    nothing_set parts c.args.path.now c.args.file c.spot_of-spot.result.part c.spot_of-spot.result.at c.spot_of-spot.result.next c.requires.listing.rise spot free none

pub put_files-requires-2-clause-most : goal.put_files-requires-2-clause-most
put_files-requires-2-clause-most c =
    let parts = c.args.parts.now.items in
    let spot : IsSpot c.args.path.now parts c.spot_of-spot.result.part c.spot_of-spot.result.at c.spot_of-spot.result.next
    = subst (λ xs. IsSpot c.args.path.now xs c.spot_of-spot.result.part c.spot_of-spot.result.at c.spot_of-spot.result.next) c.deref.ensures.value c.spot_of-spot.ensures in
    one_more parts c.deref-2.result.now c.in_ok-files-2.files.items (option_map arc_value c.args.file) c.spot_of-spot.result.part c.spot_of-spot.result.at c.spot_of-spot.result.next
    spot.here c.requires.listing.sized (c.deref-2.ensures ∙ sym (part_read parts c.spot_of-spot.result.part c.index.result.now spot.here c.index.ensures)) spot.start spot.within c.in_ok-files-2.ensures

pub returns-clause-listing : goal.returns-clause-listing
returns-clause-listing c =
    let parts = c.args.parts.now.items in
    let spot : IsSpot c.args.path.now parts c.spot_of-spot.result.part c.spot_of-spot.result.at c.spot_of-spot.result.next
    = subst (λ xs. IsSpot c.args.path.now xs c.spot_of-spot.result.part c.spot_of-spot.result.at c.spot_of-spot.result.next) c.deref.ensures.value c.spot_of-spot.ensures in
    record {
      rise = (spot_set parts (listed c.put_files-2.new.parts.items) c.args.path.now (option_map arc_value c.args.file) c.spot_of-spot.result.part c.spot_of-spot.result.at c.spot_of-spot.result.next
          c.requires.listing.rise spot (own_value c.args.file c.args.path.now c.requires.own)
          (replaced parts c.remove.new.self.items _ (map arc_value c.in_ok-files-2.files.items) c.deref-2.result.now (option_to_list (option_map arc_value c.args.file)) c.spot_of-spot.result.part c.spot_of-spot.result.at c.spot_of-spot.result.next
          spot.here c.remove.ensures.items (c.deref-2.ensures ∙ sym (part_read parts c.spot_of-spot.result.part c.index.result.now spot.here c.index.ensures)) c.in_ok-files-2.ensures c.in_ok-put_files-2.ensures.files)).0;
      sized = c.in_ok-put_files-2.ensures.sized (removed_sized parts c.remove.new.self.items c.spot_of-spot.result.part c.remove.ensures.items c.requires.listing.sized);
    }

pub returns-clause-set : goal.returns-clause-set
returns-clause-set c =
    let parts = c.args.parts.now.items in
    let spot : IsSpot c.args.path.now parts c.spot_of-spot.result.part c.spot_of-spot.result.at c.spot_of-spot.result.next
    = subst (λ xs. IsSpot c.args.path.now xs c.spot_of-spot.result.part c.spot_of-spot.result.at c.spot_of-spot.result.next) c.deref.ensures.value c.spot_of-spot.ensures in
    (spot_set parts (listed c.put_files-2.new.parts.items) c.args.path.now (option_map arc_value c.args.file) c.spot_of-spot.result.part c.spot_of-spot.result.at c.spot_of-spot.result.next
    c.requires.listing.rise spot (own_value c.args.file c.args.path.now c.requires.own)
    (replaced parts c.remove.new.self.items _ (map arc_value c.in_ok-files-2.files.items) c.deref-2.result.now (option_to_list (option_map arc_value c.args.file)) c.spot_of-spot.result.part c.spot_of-spot.result.at c.spot_of-spot.result.next
    spot.here c.remove.ensures.items (c.deref-2.ensures ∙ sym (part_read parts c.spot_of-spot.result.part c.index.result.now spot.here c.index.ensures)) c.in_ok-files-2.ensures c.in_ok-put_files-2.ensures.files)).1
