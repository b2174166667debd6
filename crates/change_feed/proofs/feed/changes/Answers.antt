use Rattle.std.proofs.Common.{◌≡◌, Ok, Err, map, arith, rules}
use Rattle.std.proofs.lemmas.Grind.{common_steps}
use Rattle.std.specs.Arc.{arc_value}
use Rattle.change_feed.specs.Shown.{feed_from}
use Rattle.change_feed.proofs.RangeLemmas.{is_feed}
use Rattle.change_feed.proofs.feed.changes.Goals as goal

pub returns-in-Some-clause-log : goal.returns-in-Some-clause-log
returns-in-Some-clause-log c = λ log last lt commits marks.
    let off : feed_from c.args.from c.args.marks.now (map arc_value c.args.commits.now) ≡ Err c.in-Some.version = first_of (search rules, grind arith, grind (arith, common_steps)) in
    is_feed log c.args.from last c.args.marks.now (map arc_value c.args.commits.now) (Err c.in-Some.version) lt commits marks off

pub returns-clause-log : goal.returns-clause-log
returns-clause-log c = λ log last lt commits marks.
    let on : feed_from c.args.from c.args.marks.now (map arc_value c.args.commits.now) ≡ Ok c.in_ok-listed.field-0.items = first_of (search rules, grind arith, grind (arith, common_steps)) in
    is_feed log c.args.from last c.args.marks.now (map arc_value c.args.commits.now) (Ok c.in_ok-listed.field-0.items) lt commits marks on
