use Rattle.std.proofs.Common.{◌≡◌, ◌++◌, map, take, drop, length, ap, ◌∙◌, sym, arith}
use Rattle.std.specs.Arc.{arc_value}
use Rattle.std.proofs.lemmas.Bool.Decides.{nat_tests}
use Rattle.std.proofs.lemmas.List.{nil_from_length}
use Rattle.log_replay.specs.Listing.{listed}
use Rattle.log_replay.proofs.SpotLemmas.{listed_cut, two_parts}
use Rattle.log_replay.proofs.listing.put_files.Goals as goal

pub returns-then-is_empty-clause-files : goal.returns-then-is_empty-clause-files
returns-then-is_empty-clause-files c =
    let none : length c.args.files.items ≡ 0 = grind (arith, nat_tests, c.is_empty.ensures, c.if-is_empty.true) in
    listed_cut c.args.parts.now.items c.args.place ∙ ap (λ es. listed (take c.args.place c.args.parts.now.items) ++ (map arc_value es ++ listed (drop c.args.place c.args.parts.now.items))) (sym (nil_from_length c.args.files.items none))

pub returns-clause-files : goal.returns-clause-files
returns-clause-files c =
    let old = c.args.parts.now.items in
    let one = c.in_ok-put_part.ensures in
    let two = c.in_ok-put_part-2.ensures in
    two.files
    ∙ ap (λ xs. listed xs ++ (map arc_value c.split_off.new.self.items ++ listed (drop c.args.place c.put_part-2.new.parts.items))) one.before
    ∙ ap (λ es. listed (take c.args.place old) ++ (map arc_value es ++ listed (drop c.args.place c.put_part-2.new.parts.items))) c.in_ok-later.ensures.items
    ∙ two_parts old c.args.place c.args.files.items 128 (listed (take c.args.place old)) (listed (drop c.args.place old)) (listed (drop c.args.place c.put_part-2.new.parts.items))
    (one.after ∙ ap (λ es. map arc_value es ++ listed (drop c.args.place old)) c.in_ok-later.ensures.tail)

pub returns-clause-sized : goal.returns-clause-sized
returns-clause-sized c = λ sized. c.in_ok-put_part-2.ensures.sized (c.in_ok-put_part.ensures.sized sized)
